-- The first relation of neither kind.
use Rattle.std.proofs.Common.{◌≡◌, ◌+◌, ◌-◌, ◌<◌, ◌∙◌, ℕ, List, [], All, ap, arith, get_or, length, subst, sym, take}
use Rattle.std.proofs.lemmas.List.{get_or_read}
use Rattle.free_poly.specs.declared.term.Term.{Term}
use Rattle.right_modules.specs.Answered.{IsFirstOther}
use Rattle.right_modules.specs.Module.{IsShaped}

-- a relation of neither kind is the first one where those before it are of the one or the other
pub first_other : (free : ℕ) (relations : List (List Term)) (place : ℕ) (r : List Term) → place < length relations → r ≡ get_or relations place r
    → All (IsShaped free) (take place relations) → (IsShaped free r → ⊥) → IsFirstOther free relations (place + 1)
first_other free relations place r within is before other =
    let same : place ≡ place + 1 - 1 = omega arith in
    let here : get_or relations place [] ≡ r = sym (get_or_read relations place r within is []) in
    record {
      from = omega arith;
      upto = omega (arith, within);
      before = subst (λ (k : ℕ). All (IsShaped free) (take k relations)) same before;
      other = λ shaped. other (subst (IsShaped free) (ap (λ (k : ℕ). get_or relations k []) (sym same) ∙ here) shaped);
    }
