-- A sorted list in which no two are tied rises strictly.
use Rattle.std.proofs.Common.{◌≡◌, false, List, get_or, refl, sym, ap, ◌∙◌, arith, AllPairs}
use Rattle.std.specs.List.{IsDistinct}
use Rattle.std.specs.List.Sorted.{IsSorted}
use Rattle.std.specs.Ordering.{eq_by_cmp, is_eq, is_lt, ordering_reverse}
use Rattle.std.specs.Cmp.{IsTotalOrder}
use Rattle.std.specs.declared.cmp.Ordering.{Ordering}
use Rattle.std.specs.declared.cmp.Ordering.TheVariants.{Less, Equal, Greater}
use Rattle.std.proofs.lemmas.List.MinMax.{ranks_by}
use Rattle.std.proofs.lemmas.List.Sorted.{sorted_far}
use Rattle.std.proofs.lemmas.Map.Keys.{apart_from_distinct}

module _ {X : Type 0} (cmp : X → X → Ordering) (total : IsTotalOrder cmp) where
  -- a tie is one from either side
  pub tied_both : (x y : X) → eq_by_cmp cmp x y ≡ eq_by_cmp cmp y x
  tied_both x y = ap is_eq (total.antisymm x y) ∙ turned (cmp y x)
    where
      turned : (r : Ordering) → is_eq (ordering_reverse r) ≡ is_eq r
      turned Less = refl
      turned Equal = refl
      turned Greater = refl

  -- each stands before each later one
  pub strictly : (xs : List X) → IsSorted cmp xs → IsDistinct (eq_by_cmp cmp) xs → AllPairs (λ x y. cmp x y ≡ Less) xs
  strictly xs sorted apart i j e before within =
      less (cmp (get_or xs i e) (get_or xs j e)) (apart_from_distinct (eq_by_cmp cmp) xs i j e apart before within)
      (ap is_lt (sym (total.antisymm (get_or xs j e) (get_or xs i e)))
      ∙ sorted_far (λ x y. is_lt (cmp x y)) (ranks_by total (λ (x : X). x)) xs sorted i j e (omega (arith, before))
      within)
    where
      less : (r : Ordering) → is_eq r ≡ false → is_lt (ordering_reverse r) ≡ false → r ≡ Less
      less Less f g = refl
      less Equal f g = cc f
      less Greater f g = cc g
