-- Words by number in another order.
use Rattle.std.proofs.Common.{◌≡◌, ◌≢◌, ◌<◌, ◌+◌, ℕ, List, length, map, get_or, refl, sym, ap, ◌∙◌, inl, inr, arith, All, AllPairs, Bool, true, false}
use Rattle.std.proofs.Common.{nat_eq, Some, subst}
use Rattle.std.specs.List.{IsDistinct, range_with_len, slice_get}
use Rattle.std.specs.List.Sorted.{IsNonDecreasingBy, IsPermutation}
use Rattle.std.proofs.lemmas.Bool.{cases_lt}
use Rattle.std.proofs.lemmas.Bool.Decides.{Decides-eqb}
use Rattle.std.proofs.lemmas.List.{get_or-map, length-map}
use Rattle.std.proofs.lemmas.List.FromFn.{get_or-range_with_len}
use Rattle.std.proofs.lemmas.List.Sorted.{All-permutation, IsPermutation-map}
use Rattle.std.proofs.lemmas.Map.Keys.{IsDistinct-IsPermutation, IsDistinct-from_apart, apart_from_distinct}
use Rattle.std.proofs.lemmas.Option.{slice_get-get_or}
use Rattle.symbolic_prep.specs.Orders.{IsRising}

eq-flips : (x y : ℕ) → nat_eq x y ≡ nat_eq y x
eq-flips x y = by_test (nat_eq x y) (nat_eq y x) refl refl
  where
    by_test : (a b : Bool) → nat_eq x y ≡ a → nat_eq y x ≡ b → nat_eq x y ≡ nat_eq y x
    by_test true true e f = e ∙ sym f
    by_test false false e f = e ∙ sym f
    by_test true false e f = absurd (let g : false ≡ true = sym f ∙ (Decides-eqb y x).1 (sym ((Decides-eqb x y).0 e)) in cc g)
    by_test false true e f = absurd (let g : false ≡ true = sym e ∙ (Decides-eqb x y).1 (sym ((Decides-eqb y x).0 f)) in cc g)

not_equal : (x y : ℕ) → x ≢ y → nat_eq x y ≡ false
not_equal x y differ = by_test (nat_eq x y) refl
  where
    by_test : (b : Bool) → nat_eq x y ≡ b → nat_eq x y ≡ false
    by_test false e = e
    by_test true e = absurd (differ ((Decides-eqb x y).0 e))

-- numbers that differ still do in another order
pub apart-permutation : (xs ys : List ℕ) → IsPermutation xs ys → AllPairs (λ a b. a ≢ b) xs → AllPairs (λ a b. a ≢ b) ys
apart-permutation xs ys permuted apart i j d before within same =
    let distinct : IsDistinct nat_eq ys = IsDistinct-IsPermutation nat_eq eq-flips xs ys permuted
    (IsDistinct-from_apart nat_eq xs (λ k l e lt inside. not_equal (get_or xs k e) (get_or xs l e) (apart k l e lt inside))) in
    let e : false ≡ true = sym (apart_from_distinct nat_eq ys i j d distinct before within) ∙ (Decides-eqb (get_or ys i d) (get_or ys j d)).1 same in
    cc e

-- each key with its number, place by place
keys_here : (keys : List ℕ) (pairs : List (ℕ × ℕ)) → map (λ p. p.0) pairs ≡ keys → map (λ p. p.1) pairs ≡ range_with_len 0 (length keys) →
    All (λ p. slice_get keys p.1 ≡ Some p.0) pairs
keys_here keys pairs firsts seconds i d within =
    let inside : i < length keys = omega (arith, within, length-map pairs (λ p. p.0), ap length firsts) in
    let number : (get_or pairs i d).1 ≡ i = sym (get_or-map (λ (p : ℕ × ℕ). p.1) pairs i d 0 within)
    ∙ ap (λ (ns : List ℕ). get_or ns i 0) seconds ∙ get_or-range_with_len 0 (length keys) i 0 inside
    ∙ (let none : 0 + i ≡ i = omega arith in none) in
    let key : get_or keys i 0 ≡ (get_or pairs i d).0 = ap (λ (ks : List ℕ). get_or ks i 0) (sym firsts) ∙ get_or-map (λ (p : ℕ × ℕ). p.0) pairs i d 0 within in
    ap (slice_get keys) number ∙ slice_get-get_or keys i 0 inside ∙ ap Some key

-- keys that are sorted with their numbers
pub rising_pairs : (keys : List ℕ) (pairs sorted : List (ℕ × ℕ)) → AllPairs (λ a b. a ≢ b) keys → map (λ p. p.0) pairs ≡ keys →
    map (λ p. p.1) pairs ≡ range_with_len 0 (length keys)
    → IsPermutation pairs sorted → IsNonDecreasingBy (λ p. p.0) sorted → IsRising keys sorted
rising_pairs keys pairs sorted apart firsts seconds permuted up = record {
  numbers = subst (λ (ns : List ℕ). IsPermutation ns (map (λ p. p.1) sorted)) seconds (IsPermutation-map (λ (p : ℕ × ℕ). p.1) pairs sorted permuted);
  each = All-permutation (λ (p : ℕ × ℕ). slice_get keys p.1 ≡ Some p.0) pairs sorted permuted (keys_here keys pairs firsts seconds);
  rising = λ i j d before within.
      let differ = apart-permutation keys (map (λ p. p.0) sorted) (subst (λ (ks : List ℕ). IsPermutation ks (map (λ p. p.0) sorted)) firsts
      (IsPermutation-map (λ (p : ℕ × ℕ). p.0) pairs sorted permuted)) apart in
      let first = get_or-map (λ (p : ℕ × ℕ). p.0) sorted i d 0 (omega (arith, before, within)) in
      let second = get_or-map (λ (p : ℕ × ℕ). p.0) sorted j d 0 within in
      let ne : (get_or sorted i d).0 ≡ (get_or sorted j d).0 → ⊥ = λ e. differ i j 0 before
      (omega (arith, within, length-map sorted (λ p. p.0))) (first ∙ e ∙ sym second) in
      elim (cases_lt (get_or sorted i d).0 (get_or sorted j d).0) [
        | inl lt ↦ lt
        | inr ge ↦ absurd (ne (omega (arith, ge, up i j d (omega (arith, before)) within)))
      ];
}
