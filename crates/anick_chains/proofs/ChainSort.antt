-- Each list has a sorted one.
use native.Mathlib.Numerals.{unary_clauses}
use Rattle.std.proofs.Common.{◌≡◌, ◌+◌, ◌<◌, ℕ, suc, zero, Bool, true, false, cond, List, [], ◌∷◌, length, get_or, refl, ap, ◌∙◌, arith}
use Rattle.std.specs.List.Sorted.{IsPermutation, IsSorted}
use Rattle.std.specs.Ordering.{is_lt, ordering_reverse}
use Rattle.std.specs.Cmp.{IsTotalOrder}
use Rattle.std.specs.declared.cmp.Ordering.{Ordering}
use Rattle.std.specs.declared.cmp.Ordering.TheVariants.{Less, Equal, Greater}
use Rattle.std.proofs.lemmas.List.Sorted.{IsPermutation-cons, IsPermutation-middle, IsPermutation-refl, IsPermutation-sym, IsPermutation-trans}

module _ {X : Type 0} (cmp : X → X → Ordering) (total : IsTotalOrder cmp) where
  abbrev below : X → X → Bool
  below x y = is_lt (cmp x y)

  abbrev inserted : X → List X → List X
  inserted x [] = x ∷ []
  inserted x (y ∷ ys) = cond (below y x) (y ∷ inserted x ys) (x ∷ y ∷ ys)

  -- the members of a list, put in order one after the other
  abbrev pub sorted : List X → List X
  sorted [] = []
  sorted (x ∷ xs) = inserted x (sorted xs)

  inserted-moves : (x : X) (ys : List X) → IsPermutation (x ∷ ys) (inserted x ys)
  inserted-moves x [] = IsPermutation-refl (x ∷ [])
  inserted-moves x (y ∷ ys) = by_test (inserted-moves x ys) (below y x)
    where
      by_test : IsPermutation (x ∷ ys) (inserted x ys) → (t : Bool) → IsPermutation (x ∷ y ∷ ys) (cond t (y ∷ inserted x ys) (x ∷ y ∷ ys))
      by_test rest false = IsPermutation-refl (x ∷ y ∷ ys)
      by_test rest true =
          IsPermutation-trans (x ∷ y ∷ ys) (y ∷ x ∷ ys) (y ∷ inserted x ys) (IsPermutation-sym (y ∷ x ∷ ys) (x ∷ y ∷ ys) (IsPermutation-middle (y ∷ []) x ys))
          (IsPermutation-cons y (x ∷ ys) (inserted x ys) rest)

  -- a sort only moves members
  pub sorted-moves : (xs : List X) → IsPermutation xs (sorted xs)
  sorted-moves [] = IsPermutation-refl []
  sorted-moves (x ∷ xs) =
      IsPermutation-trans (x ∷ xs) (x ∷ sorted xs) (inserted x (sorted xs)) (IsPermutation-cons x xs (sorted xs) (sorted-moves xs))
      (inserted-moves x (sorted xs))

  abbrev IsUp : List X → Type 0
  IsUp [] = Unit {0}
  IsUp (x ∷ []) = Unit {0}
  IsUp (x ∷ y ∷ ys) = (below y x ≡ false) × IsUp (y ∷ ys)

  turned : (x y : X) → below y x ≡ true → below x y ≡ false
  turned x y e = ap is_lt (total.antisymm x y) ∙ by_order (cmp y x) e
    where
      by_order : (r : Ordering) → is_lt r ≡ true → is_lt (ordering_reverse r) ≡ false
      by_order Less f = refl
      by_order Equal f = refl
      by_order Greater f = cc f

  up_rest : (y : X) (ys : List X) → IsUp (y ∷ ys) → IsUp ys
  up_rest y [] h = tt
  up_rest y (z ∷ ys) h = h.1

  up_behind : (y x : X) (ys : List X) → below x y ≡ false → IsUp (y ∷ ys) → IsUp (inserted x ys) → IsUp (y ∷ inserted x ys)
  up_behind y x [] a h k = (a, tt)
  up_behind y x (z ∷ zs) a h k = by_test (below z x) k
    where
      by_test : (t : Bool) → IsUp (cond t (z ∷ inserted x zs) (x ∷ z ∷ zs)) → IsUp (y ∷ cond t (z ∷ inserted x zs) (x ∷ z ∷ zs))
      by_test true j = (h.0, j)
      by_test false j = (a, j)

  inserted-up : (x : X) (ys : List X) → IsUp ys → IsUp (inserted x ys)
  inserted-up x [] h = tt
  inserted-up x (y ∷ ys) h = by_test (inserted-up x ys (up_rest y ys h)) (below y x) refl
    where
      by_test : IsUp (inserted x ys) → (t : Bool) → below y x ≡ t → IsUp (cond t (y ∷ inserted x ys) (x ∷ y ∷ ys))
      by_test rest false e = (e, h)
      by_test rest true e = up_behind y x ys (turned x y e) h rest

  sorted-up : (xs : List X) → IsUp (sorted xs)
  sorted-up [] = tt
  sorted-up (x ∷ xs) = inserted-up x (sorted xs) (sorted-up xs)

  up_at : (xs : List X) → IsUp xs → (k : ℕ) (d : X) → k + 1 < length xs → below (get_or xs (k + 1) d) (get_or xs k d) ≡ false
  up_at [] h k d lt = absurd (omega (arith, lt))
  up_at (x ∷ []) h k d lt = absurd (omega (arith, lt))
  up_at (x ∷ y ∷ ys) h zero d lt = h.0
  up_at (x ∷ y ∷ ys) h (suc k) d lt = simp unary_clauses (simp unary_clauses at (up_at (y ∷ ys) h.1 k d (omega (arith, lt))))

  -- and puts them in order
  pub sorted-sorted : (xs : List X) → IsSorted cmp (sorted xs)
  sorted-sorted xs = λ k d low lt. up_at (sorted xs) (sorted-up xs) k d lt
