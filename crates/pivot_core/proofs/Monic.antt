-- Leading columns, and rows made monic.
use Rattle.std.proofs.Common.{inl, inr, ◌*◌, ◌+◌, ◌≡◌, ◌≢◌, ℕ, zero, suc, ◌%◌, ◌<◌, ◌≤◌, ◌==◌, Bool, true, false, cond, length, get_or, List, [], ◌∷◌}
use Rattle.std.proofs.Common.{refl, sym, ap, ◌∙◌, arith}
use Rattle.std.proofs.Math.Nat.{mod-eq_of_lt, mul_assoc, mul_comm, mul-one}
use Rattle.std.proofs.lemmas.Nat.{mul-mod_first, mul-mod_second}
use Rattle.std.proofs.lemmas.Bool.{cases_eq, cases_lt, eqb-true, eqb-false}
use Rattle.field_table.specs.Residues.{IsFieldModulus, product_of}
use Rattle.back_reduce.proofs.Vectors.{entry-map, scaled_zero}
use Rattle.pivot_core.specs.Views.{inverse_below, inverse_of, lead_at, made_monic}

-- before its leading column a row is 0
pub lead_at-before : (y : List ℕ) (j : ℕ) → j < lead_at y → get_or y j zero ≡ zero
lead_at-before [] j lt = absurd (omega (arith, lt))
lead_at-before (x ∷ y) j lt = by_answer (lead_at-before y) (x == 0) refl j lt
  where
    by_answer : ((j : ℕ) → j < lead_at y → get_or y j zero ≡ zero) → (b : Bool) → (x == 0) ≡ b → (j : ℕ) → j < cond b (suc (lead_at y)) 0 →
        get_or (x ∷ y) j zero ≡ zero
    by_answer rest true e zero lt = eqb-true x 0 e
    by_answer rest true e (suc j) lt = rest j (omega (arith, lt))
    by_answer rest false e j lt = absurd (omega (arith, lt))

-- and other than 0 there
pub lead_at-other : (y : List ℕ) → lead_at y < length y → get_or y (lead_at y) zero ≢ zero
lead_at-other [] lt = absurd (omega (arith, lt))
lead_at-other (x ∷ y) lt = by_answer (lead_at-other y) (x == 0) refl lt
  where
    by_answer : (lead_at y < length y → get_or y (lead_at y) zero ≢ zero) → (b : Bool) → (x == 0) ≡ b →
        cond b (suc (lead_at y)) 0 < suc (length y) → get_or (x ∷ y) (cond b (suc (lead_at y)) 0) zero ≢ zero
    by_answer rest true e lt = rest (omega (arith, lt))
    by_answer rest false e lt = eqb-false x 0 e

-- where a row is not 0 before some place, its leading column is from there on
pub lead_at-from : (y : List ℕ) (c : ℕ) → c ≤ length y → ((j : ℕ) → j < c → get_or y j zero ≡ zero) → c ≤ lead_at y
lead_at-from y zero le zeros = omega arith
lead_at-from [] (suc c) le zeros = absurd (omega (arith, le))
lead_at-from (x ∷ y) (suc c) le zeros = by_answer (lead_at-from y c (omega (arith, le)) (λ j lt. zeros (suc j) (omega (arith, lt)))) (x == 0) refl
  where
    by_answer : c ≤ lead_at y → (b : Bool) → (x == 0) ≡ b → suc c ≤ cond b (suc (lead_at y)) 0
    by_answer rest true e = omega (arith, rest)
    by_answer rest false e = absurd (eqb-false x 0 e (zeros zero (omega arith)))

-- where it is 0 the leading column is further on, and else it is there
pub lead_at-further : (y : List ℕ) (at : ℕ) → at ≤ lead_at y → at < length y → get_or y at zero ≡ zero → at + 1 ≤ lead_at y
lead_at-further y at le within none = elim (cases_eq at (lead_at y)) [
  | inl is ↦ absurd (lead_at-other y (omega (arith, is, within)) (ap (λ (k : ℕ). get_or y k zero) (sym is) ∙ none))
  | inr other ↦ omega (arith, le, other)
]

-- a place up to the leading column, at which a row is not 0, is the leading column
pub lead_at-here : (y : List ℕ) (at : ℕ) → at ≤ lead_at y → get_or y at zero ≢ zero → at ≡ lead_at y
lead_at-here y at le other = elim (cases_lt at (lead_at y)) [
  | inl before ↦ absurd (other (lead_at-before y at before))
  | inr from ↦ omega (arith, le, from)
]

-- the search finds an inverse where there is one
inverse_below-right : (p a k b : ℕ) → b < k → product_of p a b ≡ 1 → product_of p a (inverse_below p a k) ≡ 1
inverse_below-right p a zero b lt is = absurd (omega (arith, lt))
inverse_below-right p a (suc k) b lt is = by_answer (λ other. inverse_below-right p a k b (omega (arith, lt, other)) is) (product_of p a k == 1) refl
  where
    by_answer : (b ≢ k → product_of p a (inverse_below p a k) ≡ 1) → (found : Bool) → (product_of p a k == 1) ≡ found →
        product_of p a (cond found k (inverse_below p a k)) ≡ 1
    by_answer rest true e = eqb-true (product_of p a k) 1 e
    by_answer rest false e = rest (λ same. eqb-false (product_of p a k) 1 e (ap (λ (n : ℕ). product_of p a n) (sym same) ∙ is))

inverse_below-small : (p a k : ℕ) → 0 < k → inverse_below p a k < k
inverse_below-small p a zero some = absurd (omega (arith, some))
inverse_below-small p a (suc k) some = by_answer (inverse_below-small p a k) (product_of p a k == 1)
  where
    by_answer : (0 < k → inverse_below p a k < k) → (found : Bool) → cond found k (inverse_below p a k) < suc k
    by_answer rest true = omega arith
    by_answer rest false = elim (cases_eq k zero) [
      | inl none ↦ (let e : inverse_below p a k ≡ 0 = ap (inverse_below p a) none in omega (arith, e))
      | inr other ↦ omega (arith, rest (omega (arith, other)))
    ]

-- there is one inverse
inverse_unique : (p a i j : ℕ) → i < p → j < p → product_of p a i ≡ 1 → product_of p a j ≡ 1 → i ≡ j
inverse_unique p a i j li lj one one' =
    sym (mod-eq_of_lt li)
    ∙ ap (λ (n : ℕ). n % p) (sym (mul-one i)) ∙ ap (λ (n : ℕ). (i * n) % p) (sym one') ∙ mul-mod_second i (a * j) p
    ∙ ap (λ (n : ℕ). n % p) (sym (mul_assoc i a j))
    ∙ sym (mul-mod_first (i * a) j p) ∙ ap (λ (n : ℕ). (n % p * j) % p) (mul_comm i a) ∙ ap (λ (n : ℕ). (n * j) % p) one
    ∙ ap (λ (n : ℕ). n % p) (omega arith) ∙ mod-eq_of_lt lj

-- a residue whose product with a is 1 is the inverse of a
pub inverse_of-is : (p a i : ℕ) → i < p → product_of p a i ≡ 1 → i ≡ inverse_of p a
inverse_of-is p a i lt one = inverse_unique p a i (inverse_of p a) lt (inverse_below-small p a p (omega (arith, lt))) one (inverse_below-right p a p i lt one)

-- a residue other than 0 times its inverse is 1
pub inverse_of-right : (p a : ℕ) → IsFieldModulus p → 0 < a → a < p → product_of p a (inverse_of p a) ≡ 1
inverse_of-right p a f some small = let b = f.has_inverse a some small in inverse_below-right p a p b.0 b.1 b.2

-- the row made monic, place by place
pub made_monic-at : (p : ℕ) (y : List ℕ) (j : ℕ) → get_or (made_monic p y) j 0 ≡ product_of p (inverse_of p (get_or y (lead_at y) 0)) (get_or y j 0)
made_monic-at p y j = entry-map (λ x. product_of p (inverse_of p (get_or y (lead_at y) 0)) x) (scaled_zero p (inverse_of p (get_or y (lead_at y) 0))) y j

-- a row made monic is 0 before its leading column
pub made_monic-before : (p : ℕ) (y : List ℕ) (j : ℕ) → j < lead_at y → get_or (made_monic p y) j 0 ≡ 0
made_monic-before p y j lt =
    let i : ℕ = inverse_of p (get_or y (lead_at y) 0) in
    made_monic-at p y j ∙ ap (λ (n : ℕ). product_of p i n) (lead_at-before y j lt) ∙ scaled_zero p i

-- where the leading entry of a row is a residue other than 0, the row made monic is 1 there
pub made_monic-one : (p : ℕ) (y : List ℕ) → IsFieldModulus p → 0 < get_or y (lead_at y) 0 → get_or y (lead_at y) 0 < p →
    get_or (made_monic p y) (lead_at y) 0 ≡ 1
made_monic-one p y f some small =
    let a : ℕ = get_or y (lead_at y) 0 in
    made_monic-at p y (lead_at y) ∙ ap (λ (n : ℕ). n % p) (mul_comm (inverse_of p a) a) ∙ inverse_of-right p a f some small
