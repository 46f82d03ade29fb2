-- Rows of residues have exactly one reduced row echelon form.
use Rattle.std.proofs.Common.{◌≡◌, ◌+◌, ◌*◌, ◌%◌, ◌<◌, ◌≤◌, ℕ, zero, suc, List, [], ◌∷◌, All, map, length, get_or, zip, refl, sym, ap, ap₂, ◌∙◌, inl}
use Rattle.std.proofs.Common.{inr, arith, subst}
use Rattle.std.specs.List.{range_with_len}
use Rattle.std.proofs.Math.Nat.{mod-eq_of_lt, mul_assoc, mul_comm, mul-one, one-mul}
use Rattle.std.proofs.lemmas.Nat.{mul-mod_first, mul-mod_second}
use mathlib.Core.HLevel.{Σ_prop_path}
use denote.Struct.Props.{props}
use Rattle.std.proofs.lemmas.Bool.{cases_eq, cases_lt}
use Rattle.std.proofs.lemmas.List.{ext_get_or, length-map}
use Rattle.std.proofs.lemmas.List.Elements.{All-contains, All-head, All-map, All-tail}
use Rattle.std.proofs.lemmas.List.FromFn.{get_or-map-range_with_len, length-map-range_with_len}
use Rattle.field_table.specs.Residues.{IsFieldModulus}
use Rattle.linear_algebra.specs.Echelon.{AreInSpan, AreSameAt, AreSameRows, IsBasis}
use Rattle.linear_algebra.specs.Fields.{Field}
use Rattle.linear_algebra.specs.Mod.{same_residue}
use Rattle.linear_algebra.proofs.Elimination.{eliminated, IsInSpan-zero_at}
use Rattle.linear_algebra.proofs.Unique.{one_form}
use Rattle.back_reduce.specs.Rows.{IsInRowSpan, IsRow}
use Rattle.back_reduce.specs.Rref.{HasOneRref, IsRref}
use Rattle.back_reduce.proofs.RowLists.{OneOf}
use Rattle.back_reduce.proofs.Echelons.{one_contained}
use Rattle.back_reduce.proofs.Vectors.{K, V, vec, vec-past}

module _ (p m : ℕ) (modulus : IsFieldModulus p) where
  abbrev Ko : Field
  Ko = K p modulus

  abbrev Vo : Type 0
  Vo = V p modulus

  -- the residues of a vector at the columns
  abbrev entries : Vo → List ℕ
  entries v = map (λ c. (v c).0) (range_with_len 0 m)

  is_row : (v : Vo) → IsRow p m (entries v)
  is_row v = record {
    size = length-map-range_with_len (λ c. (v c).0) 0 m;
    residues = λ k d within. (let inside : k < m = omega (arith, within, length-map-range_with_len (λ c. (v c).0) 0 m) in
        subst (λ (n : ℕ). n < p) (sym (get_or-map-range_with_len (λ c. (v c).0) 0 m k k d inside (omega arith))) (v k).1);
  }

  -- a vector that is 0 past the columns is that of its residues
  vec-entries : (v : Vo) → ((c : ℕ) → m ≤ c → v c ≡ Ko.zero) → (c : ℕ) → vec p modulus (entries v) c ≡ v c
  vec-entries v past c = elim (cases_lt c m) [
    | inl within ↦ same_residue p _ _ (ap (λ (n : ℕ). n % p) (get_or-map-range_with_len (λ k. (v k).0) 0 m c c 0 within (omega arith)) ∙ mod-eq_of_lt (v c).1)
    | inr beyond ↦ vec-past p modulus (entries v) c (omega (arith, beyond, length-map-range_with_len (λ k. (v k).0) 0 m)) ∙ sym (past c beyond)
  ]

  module _ (rows : List (List ℕ)) (are : All (IsRow p m) rows) where
    member_past : (v : Vo) → IsInRowSpan p modulus rows v → (c : ℕ) → m ≤ c → v c ≡ Ko.zero
    member_past v s c beyond = IsInSpan-zero_at Ko ℕ (OneOf p modulus rows) c (λ g one. (
        let r = one_contained p m modulus rows g one in
        let size : length r.0 ≡ m = (All-contains (IsRow p m) rows r.0 are r.1).size in
        ap (λ (u : Vo). u c) r.2 ∙ vec-past p modulus r.0 c (omega (arith, size, beyond)))) v s

    same_pairs : (es : List (ℕ × Vo)) → AreInSpan Ko ℕ (map (vec p modulus) rows) es →
        zip (map (λ e. e.0) es) (map (vec p modulus) (map (λ e. entries e.1) es)) ≡ es
    same_pairs [] s = refl
    same_pairs (e ∷ es) s = λ i. (e.0, λ c. vec-entries e.1 (member_past e.1 s.0) c i) ∷ same_pairs es s.1 i

    basis_lists : (es : List (ℕ × Vo)) → IsBasis Ko ℕ (range_with_len 0 m) (map (vec p modulus) rows) es
        → IsBasis Ko ℕ (range_with_len 0 m) (map (vec p modulus) rows) (zip (map (λ e. e.0) es) (map (vec p modulus) (map (λ e. entries e.1) es)))
    basis_lists es b = subst (IsBasis Ko ℕ (range_with_len 0 m) (map (vec p modulus) rows)) (sym (same_pairs es b.inside)) b

  same_at : (a n k : ℕ) (v w : Vo) → AreSameAt Ko ℕ (range_with_len a n) v w → a ≤ k → k < a + n → v k ≡ w k
  same_at a zero k v w s le lt = absurd (omega (arith, le, lt))
  same_at a (suc n) k v w s le lt = elim (cases_eq k a) [
    | inl is ↦ subst (λ (i : ℕ). v i ≡ w i) (sym is) s.0
    | inr other ↦ same_at (a + 1) n k v w s.1 (omega (arith, le, other)) (omega (arith, lt))
  ]

  same_row : (r s : List ℕ) → IsRow p m r → IsRow p m s → AreSameAt Ko ℕ (range_with_len 0 m) (vec p modulus r) (vec p modulus s) → r ≡ s
  same_row r s h k e = ext_get_or 0 r s (h.size ∙ sym k.size) (λ i within. (
      let first : get_or r i 0 % p ≡ get_or r i 0 = mod-eq_of_lt (h.residues i 0 within) in
      let second : get_or s i 0 % p ≡ get_or s i 0 = mod-eq_of_lt (k.residues i 0 (omega (arith, within, h.size, k.size))) in
      let both : vec p modulus r i ≡ vec p modulus s i = same_at 0 m i (vec p modulus r) (vec p modulus s) e (omega arith) (omega (arith, within, h.size)) in
      sym first ∙ ap (λ (x : Ko.F). x.0) both ∙ second))

  same_rows : (cs : List ℕ) (rs : List (List ℕ)) (ds : List ℕ) (ss : List (List ℕ)) → length cs ≡ length rs → length ds ≡ length ss →
      All (IsRow p m) rs → All (IsRow p m) ss
      → AreSameRows Ko ℕ (range_with_len 0 m) (zip cs (map (vec p modulus) rs)) (zip ds (map (vec p modulus) ss)) → rs ≡ ss
  same_rows [] [] [] [] l k h g e = refl
  same_rows [] [] [] (s ∷ ss) l k h g e = absurd (omega (arith, k))
  same_rows [] [] (d ∷ ds) [] l k h g e = absurd (omega (arith, k))
  same_rows [] [] (d ∷ ds) (s ∷ ss) l k h g e = absurd e
  same_rows [] (r ∷ rs) ds ss l k h g e = absurd (omega (arith, l))
  same_rows (c ∷ cs) [] ds ss l k h g e = absurd (omega (arith, l))
  same_rows (c ∷ cs) (r ∷ rs) [] [] l k h g e = absurd e
  same_rows (c ∷ cs) (r ∷ rs) [] (s ∷ ss) l k h g e = absurd (omega (arith, k))
  same_rows (c ∷ cs) (r ∷ rs) (d ∷ ds) [] l k h g e = absurd (omega (arith, k))
  same_rows (c ∷ cs) (r ∷ rs) (d ∷ ds) (s ∷ ss) l k h g e =
      ap₂ ◌∷◌ (same_row r s (All-head (IsRow p m) r rs h) (All-head (IsRow p m) s ss g) e.1)
      (same_rows cs rs ds ss (omega (arith, l)) (omega (arith, k)) (All-tail (IsRow p m) r rs h) (All-tail (IsRow p m) s ss g) e.2)

  -- two reduced row echelon forms of the same rows are equal
  pub one_rref : (rows echelon other : List (List ℕ)) → IsRref p m rows echelon → IsRref p m rows other → other ≡ echelon
  one_rref rows echelon other h k =
      same_rows k.leads other h.leads echelon k.count h.count k.each h.each
      (one_form Ko ℕ (range_with_len 0 m) (map (vec p modulus) rows) (map (vec p modulus) rows) (λ v. ((λ s. s), (λ s. s)))
      (zip k.leads (map (vec p modulus) other)) (zip h.leads (map (vec p modulus) echelon)) (k.basis modulus) (h.basis modulus))

-- a residue has one inverse
one_inverse : (p a b c : ℕ) → b < p → c < p → (a * b) % p ≡ 1 → (a * c) % p ≡ 1 → b ≡ c
one_inverse p a b c lb lc eb ec =
    let left : (b * (a * c)) % p ≡ b = sym (mul-mod_second b (a * c) p) ∙ ap (λ (n : ℕ). (b * n) % p) ec ∙ ap (λ (n : ℕ). n % p) (mul-one b)
    ∙ mod-eq_of_lt lb in
    let right : (a * b * c) % p ≡ c = sym (mul-mod_first (a * b) c p) ∙ ap (λ (n : ℕ). (n * c) % p) eb ∙ ap (λ (n : ℕ). n % p) (one-mul c) ∙ mod-eq_of_lt lc in
    sym left ∙ ap (λ (n : ℕ). n % p) (sym (mul_assoc b a c) ∙ ap (λ (n : ℕ). n * c) (mul_comm b a)) ∙ right

same_inverse : (p a : ℕ) (x y : (b : ℕ) × (b < p) × ((a * b) % p ≡ 1)) → x ≡ y
same_inverse p a x y =
    let first : (b : ℕ) × ((b < p) × ((a * b) % p ≡ 1)) = (x.0, (x.1, x.2)) in
    let second : (b : ℕ) × ((b < p) × ((a * b) % p ≡ 1)) = (y.0, (y.1, y.2)) in
    let nested : first ≡ second = Σ_prop_path (λ n. hlevel props) (one_inverse p a x.0 y.0 x.1 y.1 x.2 y.2) in
    λ i. ((nested i).0, (nested i).1.0, (nested i).1.1)

-- so the proofs that a number is a field modulus are one
one_modulus : (p : ℕ) (f g : IsFieldModulus p) → f ≡ g
one_modulus p f g =
    let inverse : (a : ℕ) (pos : 0 < a) (lt : a < p) → f.has_inverse a pos lt ≡ g.has_inverse a pos lt =
    λ a pos lt. same_inverse p a (f.has_inverse a pos lt) (g.has_inverse a pos lt) in
    let prop : IsProp (2 ≤ p) = hlevel props in
    let two : f.two_or_more ≡ g.two_or_more = prop f.two_or_more g.two_or_more in
    λ i. record { two_or_more = two i; has_inverse = λ a pos lt. inverse a pos lt i }

-- rows of m residues have exactly one reduced row echelon form
pub has_one_rref : (p m : ℕ) (rows : List (List ℕ)) → IsFieldModulus p → All (IsRow p m) rows → HasOneRref p m rows
has_one_rref p m rows modulus are =
    let found = eliminated (K p modulus) ℕ (range_with_len 0 m) (map (vec p modulus) rows) in
    let echelon : List (List ℕ) = map (λ e. entries p m modulus e.1) found.0 in
    let leads : List ℕ = map (λ e. e.0) found.0 in
    let form : IsRref p m rows echelon = record {
      each = All-map (IsRow p m) (λ e. entries p m modulus e.1) found.0 (λ k d within. is_row p m modulus (get_or found.0 k d).1);
      leads = leads;
      count = length-map found.0 (λ e. e.0) ∙ sym (length-map found.0 (λ e. entries p m modulus e.1));
      basis = λ other. subst (λ (f : IsFieldModulus p). IsBasis (K p f) ℕ (range_with_len 0 m) (map (vec p f) rows)
          (zip leads (map (vec p f) echelon))) (one_modulus p modulus other) (basis_lists p m modulus rows are found.0 found.1);
    } in
    record { echelon = echelon; form = form; one = λ other h. one_rref p m modulus rows echelon other form h }
