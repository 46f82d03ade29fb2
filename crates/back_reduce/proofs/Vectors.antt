-- Rows as vectors, and multiples of rows added to others.
use Rattle.std.proofs.Common.{◌≡◌, ◌≢◌, ◌+◌, ◌-◌, ◌*◌, ◌%◌, ◌<◌, ◌≤◌, ℕ, zero, suc, List, [], ◌∷◌, ◌++◌, All, drop, map, length, get_or, take, refl, sym}
use Rattle.std.proofs.Common.{ap, ap₂, ◌∙◌, inl, inr, arith, length-append, mul-zero, mul-one, add-zero}
use Rattle.std.proofs.Math.Nat.{add-mod, mod-eq_of_lt, mod-mod, mod_self, zero-mod}
use Rattle.std.proofs.lemmas.Bool.{cases_lt}
use Rattle.std.proofs.lemmas.List.{append-nil, drop_all, get_or_append_left, get_or-append_right, get_or-drop, get_or_past, get_or-take, length-drop}
use Rattle.std.proofs.lemmas.List.{length-take-le, take_all}
use Rattle.std.proofs.lemmas.Nat.{mul-mod}
use borrow.Rule.Slice.PartMut.{put_mid}
use Rattle.field_table.proofs.Multiples.{length-plus_multiple, plus_multiple-at, plus_multiple_by_places}
use Rattle.field_table.specs.Residues.{IsFieldModulus, negative_of, plus_multiple, product_of}
use Rattle.linear_algebra.specs.Fields.{Field}
use Rattle.linear_algebra.specs.Mod.{Residue, of, residue_field, same_residue}
use Rattle.back_reduce.specs.Rows.{vector}
use Rattle.back_reduce.specs.Table.{IsLeader}

-- a row leads at one of its columns
pub leader_within : (p m c : ℕ) (row : List ℕ) → IsLeader p m c row → c < m
leader_within p m c row h = omega (arith, within row c h.one, h.size)
  where
    within : (xs : List ℕ) (k : ℕ) → get_or xs k 0 ≡ 1 → k < length xs
    within [] k e = absurd (omega (arith, e))
    within (x ∷ xs) zero e = omega arith
    within (x ∷ xs) (suc k) e = omega (arith, within xs k e)

-- a multiple of a leader changes nothing before its column
pub kept_entry : (p m a c k : ℕ) (row pivot : List ℕ) → length row ≡ m → All (λ r. r < p) row → IsLeader p m c pivot → k < c → k < m →
    get_or (plus_multiple p a row pivot) k 0 ≡ get_or row k 0
kept_entry p m a c k row pivot l residues h lt within =
    plus_multiple-at p a row pivot k (l ∙ sym h.size) (omega (arith, within, l))
    ∙ ap (λ (n : ℕ). (get_or row k 0 + a * n) % p) (h.before k lt) ∙ ap (λ (n : ℕ). (get_or row k 0 + n) % p) (mul-zero a)
    ∙ ap (λ (n : ℕ). n % p) (add-zero (get_or row k 0))
    ∙ mod-eq_of_lt (residues k 0 (omega (arith, within, l)))

-- the multiple by the negative makes the entry at its column 0
pub gone_entry : (p m c : ℕ) (row pivot : List ℕ) → length row ≡ m → All (λ r. r < p) row → IsLeader p m c pivot → c < m →
    get_or row c 0 ≢ 0 → get_or (plus_multiple p (negative_of p (get_or row c 0)) row pivot) c 0 ≡ 0
gone_entry p m c row pivot l residues h within other =
    let y = get_or row c 0 in
    let lt : y < p = residues c 0 (omega (arith, within, l)) in
    let negative : (p - y) % p ≡ p - y = mod-eq_of_lt (omega (arith, lt, other)) in
    plus_multiple-at p ((p - y) % p) row pivot c (l ∙ sym h.size) (omega (arith, within, l))
    ∙ ap (λ (n : ℕ). (y + (p - y) % p * n) % p) h.one ∙ ap (λ (n : ℕ). (y + n) % p) (mul-one ((p - y) % p) ∙ negative)
    ∙ ap (λ (n : ℕ). n % p) (omega (arith, lt)) ∙ mod_self p

-- what is added from a column on is added to the whole, where the other row is 0 before it
pub added_from : (p a at k j : ℕ) (row leader rest : List ℕ) → All (λ r. r < p) row → length row ≡ length leader → at ≤ length leader →
    ((i : ℕ) → i < at → get_or leader i 0 ≡ 0) → k ≡ length row - at → j ≡ length leader - at
    → rest ≡ plus_multiple p a (take k (drop at row)) (take j (drop at leader)) → put_mid at k row rest ≡ plus_multiple p a row leader
added_from p a at k j row leader rest residues size within none_before left right is =
    let left_whole : take k (drop at row) ≡ drop at row = take_all k (drop at row) (omega (arith, length-drop at row, left)) in
    let right_whole : take j (drop at leader) ≡ drop at leader = take_all j (drop at leader) (omega (arith, length-drop at leader, right)) in
    let none : drop k (drop at row) ≡ [] = drop_all k (drop at row) (omega (arith, length-drop at row, left)) in
    let same : length (drop at row) ≡ length (drop at leader) = length-drop at row ∙ ap (λ (n : ℕ). n - at) size ∙ sym (length-drop at leader) in
    let sums : rest ≡ plus_multiple p a (drop at row) (drop at leader) = is ∙ ap₂ (plus_multiple p a) left_whole right_whole in
    let front : length (take at row) ≡ at = length-take-le at row (omega (arith, within, size)) in
    let long : length (take at row ++ rest) ≡ length row = omega (
      arith,
      length-append (take at row) rest,
      front,
      ap length sums,
      length-plus_multiple p a (drop at row) (drop at leader),
      length-drop at row,
      within,
      size,
    ) in
    ap (λ (z : List ℕ). take at row ++ (rest ++ z)) none ∙ ap (λ (z : List ℕ). take at row ++ z) (append-nil rest)
    ∙ plus_multiple_by_places p a row leader (take at row ++ rest) long size (λ i inside. elim (cases_lt i at) [
      | inl before ↦ get_or_append_left (take at row) rest 0 i (omega (arith, before, front)) ∙ get_or-take at row i 0 before
          ∙ sym (ap (λ (n : ℕ). (get_or row i 0 + a * n) % p) (none_before i before) ∙ ap (λ (n : ℕ). (get_or row i 0 + n) % p) (mul-zero a)
          ∙ ap (λ (n : ℕ). n % p) (add-zero (get_or row i 0)) ∙ mod-eq_of_lt (residues i 0 inside))
      | inr from ↦ (
          let n = i - at in
          let shown : at + n ≡ i = omega (arith, from) in
          get_or-append_right (take at row) rest at i 0 front from ∙ ap (λ (r : List ℕ). get_or r n 0) sums
          ∙ plus_multiple-at p a (drop at row) (drop at leader) n same (omega (arith, length-drop at row, from, inside))
          ∙ ap₂ (λ (r s : ℕ). (r + a * s) % p) (get_or-drop at row n 0 ∙ ap (λ (m : ℕ). get_or row m 0) shown)
          (get_or-drop at leader n 0 ∙ ap (λ (m : ℕ). get_or leader m 0) shown))
    ])

entry-plus : (p a : ℕ) (y x : List ℕ) (c : ℕ) → length y ≡ length x → get_or (plus_multiple p a y x) c 0 % p ≡ (get_or y c 0 + a * get_or x c 0) % p
entry-plus p a [] [] c l = ap (λ (n : ℕ). n % p) (sym (omega (arith, mul-zero a)))
entry-plus p a [] (s ∷ x) c l = absurd (omega (arith, l))
entry-plus p a (r ∷ y) [] c l = absurd (omega (arith, l))
entry-plus p a (r ∷ y) (s ∷ x) zero l = mod-mod (r + a * s) p
entry-plus p a (r ∷ y) (s ∷ x) (suc c) l = entry-plus p a y x c (omega (arith, l))

-- the entry of a function's image is the function of the entry, also past the end, where the function keeps 0
pub entry-map : (f : ℕ → ℕ) → f 0 ≡ 0 → (row : List ℕ) (c : ℕ) → get_or (map f row) c 0 ≡ f (get_or row c 0)
entry-map f none [] c = sym none
entry-map f none (r ∷ row) zero = refl
entry-map f none (r ∷ row) (suc c) = entry-map f none row c

-- a times 0 is 0 modulo p
pub scaled_zero : (p a : ℕ) → product_of p a 0 ≡ 0
scaled_zero p a = ap (λ (n : ℕ). n % p) (mul-zero a) ∙ zero-mod p

module _ (p : ℕ) (modulus : IsFieldModulus p) where
  abbrev pub K : Field
  K = residue_field p modulus

  abbrev pub V : Type 0
  V = ℕ → Residue p

  abbrev pub res : ℕ → Residue p
  res n = of p modulus.two_or_more modulus.has_inverse n

  abbrev pub vec : List ℕ → V
  vec row = vector p modulus row

  -- the vector of y + a * x is that of y plus a times that of x, for rows of one length
  pub vec-plus : (a : ℕ) (y x : List ℕ) → length y ≡ length x → (c : ℕ) → vec (plus_multiple p a y x) c ≡ K.add (vec y c) (K.mul (res a) (vec x c))
  vec-plus a y x l c = same_residue p _ _ (entry-plus p a y x c l ∙ add-mod (get_or y c 0) (a * get_or x c 0) p
      ∙ ap (λ (n : ℕ). (get_or y c 0 % p + n) % p) (mul-mod a (get_or x c 0) p))

  -- the vector of a * row is a times that of the row
  pub vec-scaled : (a : ℕ) (row : List ℕ) (c : ℕ) → vec (map (λ r. product_of p a r) row) c ≡ K.mul (res a) (vec row c)
  vec-scaled a row c = same_residue p _ _ (
      ap (λ (n : ℕ). n % p) (entry-map (λ r. product_of p a r) (scaled_zero p a) row c)
      ∙ mod-mod (a * get_or row c 0) p ∙ mul-mod a (get_or row c 0) p)

  -- a row is 0 past its end
  pub vec-past : (row : List ℕ) (c : ℕ) → length row < c + 1 → vec row c ≡ K.zero
  vec-past row c past = same_residue p _ _ (ap (λ (n : ℕ). n % p) (get_or_past row c 0 (omega (arith, past))))

  -- where the row has 0, so has its vector
  pub vec-zero : (row : List ℕ) (c : ℕ) → get_or row c 0 ≡ 0 → vec row c ≡ K.zero
  vec-zero row c none = same_residue p _ _ (ap (λ (n : ℕ). n % p) none)

  -- where the row has 1, so has its vector
  pub vec-one : (row : List ℕ) (c : ℕ) → get_or row c 0 ≡ 1 → vec row c ≡ K.one
  vec-one row c one = same_residue p _ _ (ap (λ (n : ℕ). n % p) one)
