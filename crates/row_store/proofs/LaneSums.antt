-- Sums of eight rows beside each other, to which multiples are added.
use Rattle.std.proofs.Common.{◌≡◌, ◌≢◌, ◌+◌, ◌-◌, ◌*◌, ◌%◌, ◌<◌, ◌≤◌, ◌^◌, ℕ, zero, suc, List, [], ◌∷◌, length, get_or, map}
use Rattle.std.proofs.Common.{cond, ltb, replicate, take, refl, sym, ap, ap₂, ◌∙◌, inl, inr, arith, subst, mul-zero, add-zero}
use Rattle.std.proofs.Math.Nat.{mod-eq_of_lt, mul-add-mod_self_left}
use Rattle.std.proofs.lemmas.Bool.{cases_eq, cases_lt, cond_above, cond_below}
use Rattle.std.proofs.lemmas.List.{get_or-map, get_or-replicate, length-replicate, map-id}
use Rattle.std.proofs.lemmas.Simd.{get_or-chunk, get_or-put_chunk_above, get_or-put_chunk_at, get_or-put_chunk_below, get_or-zip2, length-chunk, length-zip2}
use Rattle.row_store.specs.Entries.{residue_at, AreEntries, Entry}
use Rattle.row_store.proofs.Residues.{seen_none, seen_other, seen_same, seen_whole}
use Rattle.row_store.proofs.Walk.{opposite}
use lib.Lanes.{chunk, put_chunk, zip2}

-- lane by lane nothing wraps
sum_lanes : (r n : ℕ) (s f : List ℕ) → length s ≡ n → length f ≡ n → ((i : ℕ) → i < n → get_or s i 0 + get_or f i 0 * r < 2 ^ 64) →
    zip2 (λ a b. (a + b) % 2 ^ 64) s (zip2 (λ a b. (a * b) % 2 ^ 64) f (replicate n r)) ≡ zip2 (λ a b. a + b * r) s f
sum_lanes r n [] f ls lf room = refl
sum_lanes r zero (a ∷ s) f ls lf room = absurd (omega (arith, ls))
sum_lanes r (suc n) (a ∷ s) [] ls lf room = absurd (omega (arith, lf))
sum_lanes r (suc n) (a ∷ s) (b ∷ f) ls lf room =
    let own : a + b * r < 2 ^ 64 = room 0 (omega arith) in
    let product : (b * r) % 2 ^ 64 ≡ b * r = mod-eq_of_lt (omega (arith, own)) in
    let sum : (a + (b * r) % 2 ^ 64) % 2 ^ 64 ≡ a + b * r = ap (λ (x : ℕ). (a + x) % 2 ^ 64) product ∙ mod-eq_of_lt own in
    ap₂ (λ (x : ℕ) (xs : List ℕ). x ∷ xs) sum
    (sum_lanes r n s f (omega (arith, ls)) (omega (arith, lf)) (λ i lt. room (suc i) (omega (arith, lt))))

-- a multiple is added in eight lanes, where nothing wraps
pub added_lanes : (r : ℕ) (s f : List ℕ) → length s ≡ 8 → length f ≡ 8 → ((i : ℕ) → i < 8 → get_or s i 0 + get_or f i 0 * r < 2 ^ 64) →
    zip2 (λ a b. (a + b) % 2 ^ 64) s (zip2 (λ a b. (a * b) % 2 ^ 64) (map (λ x. x) f) (r ∷ r ∷ r ∷ r ∷ r ∷ r ∷ r ∷ r ∷ []))
    ≡ zip2 (λ a b. a + b * r) s f
added_lanes r s f ls lf room =
    ap (λ (g : List ℕ). zip2 (λ a b. (a + b) % 2 ^ 64) s (zip2 (λ a b. (a * b) % 2 ^ 64) g (replicate 8 r))) (map-id f) ∙ sum_lanes r 8 s f ls lf room

-- one more entry is seen
module _ (p n i : ℕ) (es : List Entry) (e : Entry) (h : AreEntries p n es) (within : i < length es) (is : e ≡ get_or es i e) (start f sums : List ℕ)
    (eight : length f ≡ 8) (room : e.column * 8 + 8 ≤ length sums)
    (before : (k j : ℕ) → j < 8 → get_or sums (k * 8 + j) 0 ≡ get_or start (k * 8 + j) 0 + get_or f j 0 * residue_at (take i es) k) where
  abbrev at : ℕ
  at = e.column * 8

  abbrev own : List ℕ
  own = chunk at 8 sums

  long : length own ≡ 8
  long = length-chunk at 8 sums room

  -- its sums are those of the start
  own_start : (j : ℕ) → j < 8 → get_or own j 0 ≡ get_or start (at + j) 0
  own_start j low = get_or-chunk at 8 sums j 0 low ∙ before e.column j low
      ∙ ap (λ (r : ℕ). get_or start (at + j) 0 + get_or f j 0 * r) (seen_none p n i es e h within is)
      ∙ ap (λ (r : ℕ). get_or start (at + j) 0 + r) (mul-zero (get_or f j 0)) ∙ add-zero (get_or start (at + j) 0)

  -- its multiples can be added within 64 bits
  pub lanes_fit : ((k j : ℕ) → j < 8 → get_or start (k * 8 + j) 0 + get_or f j 0 * residue_at es k < 2 ^ 64) → (j : ℕ) → j < 8 →
      get_or own j 0 + get_or f j 0 * e.residue < 2 ^ 64
  lanes_fit fit j low = subst (λ (s : ℕ). s + get_or f j 0 * e.residue < 2 ^ 64) (sym (own_start j low))
      (subst (λ (r : ℕ). get_or start (at + j) 0 + get_or f j 0 * r < 2 ^ 64) (seen_whole p n i es e h within is) (fit e.column j low))

  -- the sums are the start and the multiples of one more entry
  pub lanes_more : (v : List ℕ) → v ≡ zip2 (λ s g. s + g * e.residue) own f → (k j : ℕ) → j < 8 →
      get_or (put_chunk at sums v) (k * 8 + j) 0 ≡ get_or start (k * 8 + j) 0 + get_or f j 0 * residue_at (take (i + 1) es) k
  lanes_more v sum k j low = elim (cases_eq k e.column) [
    | inl same ↦ subst (λ (c : ℕ). get_or (put_chunk at sums v) (c * 8 + j) 0 ≡ get_or start (c * 8 + j) 0 + get_or f j 0 * residue_at (take (i + 1) es) c)
        (sym same) here
    | inr other ↦ stays other ∙ before k j low ∙ ap (λ (r : ℕ). get_or start (k * 8 + j) 0 + get_or f j 0 * r) (sym (seen_other p n i es e h within is k other))
  ]
    where
      wide : length v ≡ 8
      wide = ap length sum ∙ length-zip2 (λ s g. s + g * e.residue) own f (long ∙ sym eight) ∙ long

      here : get_or (put_chunk at sums v) (at + j) 0 ≡ get_or start (at + j) 0 + get_or f j 0 * residue_at (take (i + 1) es) e.column
      here = get_or-put_chunk_at at sums v j 0 (omega (arith, low, wide)) (omega (arith, wide, room)) ∙ ap (λ (w : List ℕ). get_or w j 0) sum
          ∙ get_or-zip2 (λ s g. s + g * e.residue) own f j 0 0 0 (omega (arith, low, long)) (omega (arith, low, eight))
          ∙ ap₂ (λ (s r : ℕ). s + get_or f j 0 * r) (own_start j low) (sym (seen_same p n i es e h within is))

      stays : k ≢ e.column → get_or (put_chunk at sums v) (k * 8 + j) 0 ≡ get_or sums (k * 8 + j) 0
      stays other = elim (cases_lt k e.column) [
        | inl less ↦ get_or-put_chunk_below at sums v (k * 8 + j) 0 (omega (arith, less, low))
        | inr more ↦ get_or-put_chunk_above at sums v (k * 8 + j) 0 (omega (arith, more, other, wide))
      ]

-- remainders lane by lane
pub remainder_lane : (q : ℕ) (s : List ℕ) (i : ℕ) → length s ≡ 8 → i < 8 →
    get_or (map (λ x. x) (zip2 (λ a b. a % b) s (q ∷ q ∷ q ∷ q ∷ q ∷ q ∷ q ∷ q ∷ []))) i 0 ≡ get_or s i 0 % q
remainder_lane q s i size low =
    ap (λ (xs : List ℕ). get_or xs i 0) (map-id (zip2 (λ a b. a % b) s (replicate 8 q)))
    ∙ get_or-zip2 (λ a b. a % b) s (replicate 8 q) i 0 0 0 (omega (arith, low, size)) (omega (arith, low, length-replicate 8 q))
    ∙ ap (λ (b : ℕ). get_or s i 0 % b) (get_or-replicate 8 i q 0 low)

-- the opposites of residues, lane by lane
module _ (p : ℕ) (s v : List ℕ) (small : p < 2 ^ 31) (size : length s ≡ 8)
    (is : v ≡ map (λ r. cond (ltb r p) r (r - p)) (zip2 (λ a b. (a + (2 ^ 32 - b)) % 2 ^ 32) (p ∷ p ∷ p ∷ p ∷ p ∷ p ∷ p ∷ p ∷ []) s))
    (i : ℕ) (low : i < 8) (below : get_or s i 0 < p) where
  abbrev x : ℕ
  x = get_or s i 0

  abbrev less : List ℕ
  less = zip2 (λ a b. (a + (2 ^ 32 - b)) % 2 ^ 32) (replicate 8 p) s

  split : p + (2 ^ 32 - x) ≡ 2 ^ 32 * 1 + (p - x)
  split = omega (arith, below, small)

  less_at : get_or less i 0 ≡ p - x
  less_at =
      get_or-zip2 (λ a b. (a + (2 ^ 32 - b)) % 2 ^ 32) (replicate 8 p) s i 0 0 0 (omega (arith, low, length-replicate 8 p)) (omega (arith, low, size))
      ∙ ap (λ (a : ℕ). (a + (2 ^ 32 - x)) % 2 ^ 32) (get_or-replicate 8 i p 0 low)
      ∙ ap (λ (a : ℕ). a % 2 ^ 32) split ∙ mul-add-mod_self_left (2 ^ 32) 1 (p - x) ∙ mod-eq_of_lt (omega (arith, small))

  wide : length less ≡ 8
  wide = length-zip2 (λ a b. (a + (2 ^ 32 - b)) % 2 ^ 32) (replicate 8 p) s (length-replicate 8 p ∙ sym size) ∙ length-replicate 8 p

  at_lane : get_or v i 0 ≡ cond (ltb (p - x) p) (p - x) (p - x - p)
  at_lane = ap (λ (w : List ℕ). get_or w i 0) (is) ∙ get_or-map (λ r. cond (ltb r p) r (r - p)) less i 0 0 (omega (arith, low, wide))
      ∙ ap (λ (r : ℕ). cond (ltb r p) r (r - p)) less_at

  none : x ≡ 0 → get_or v i 0 ≡ 0
  none nought = at_lane ∙ sym (cond_above (p - x) p (p - x) (p - x - p) (p - x - p) (omega (arith, nought)) refl) ∙ omega (arith, nought)

  some : x ≢ 0 → get_or v i 0 ≡ p - x
  some more = at_lane ∙ sym (cond_below (p - x) p (p - x) (p - x - p) (omega (arith, more, below)))

  -- the opposite is a residue
  pub opposite_below : get_or v i 0 < p
  opposite_below = elim (cases_eq x 0) [
    | inl nought ↦ omega (arith, none nought, below)
    | inr more ↦ omega (arith, some more, more, below)
  ]

  -- a residue and its opposite have the sum 0
  pub opposite_sum : (x + get_or v i 0) % p ≡ 0
  opposite_sum = elim (cases_eq x 0) [
    | inl nought ↦ ap (λ (y : ℕ). y % p) (omega (arith, none nought, nought)) ∙ mod-eq_of_lt (omega (arith, below))
    | inr more ↦ ap (λ (y : ℕ). (x + y) % p) (some more) ∙ opposite p x below
  ]

-- a column's sums are changed
module _ (at : ℕ) (sums v : List ℕ) (room : at * 8 + 8 ≤ length sums) (eight : length v ≡ 8) where
  -- the sums of this column are the new ones
  pub column_at : (i : ℕ) → i < 8 → get_or (put_chunk (at * 8) sums v) (at * 8 + i) 0 ≡ get_or v i 0
  column_at i low = get_or-put_chunk_at (at * 8) sums v i 0 (omega (arith, low, eight)) (omega (arith, eight, room))

  -- those of other columns stay
  pub column_other : (k i : ℕ) → i < 8 → k ≢ at → get_or (put_chunk (at * 8) sums v) (k * 8 + i) 0 ≡ get_or sums (k * 8 + i) 0
  column_other k i low other = elim (cases_lt k at) [
    | inl less ↦ get_or-put_chunk_below (at * 8) sums v (k * 8 + i) 0 (omega (arith, less, low))
    | inr more ↦ get_or-put_chunk_above (at * 8) sums v (k * 8 + i) 0 (omega (arith, more, other, eight))
  ]
