use Rattle.std.proofs.Common.{◌∙◌, ℕ, List, None, Result, Ok, Err, get_or, map, subst}
use Rattle.std.specs.List.{AllZip}
use Rattle.std.specs.Result.{IfOk}
use Rattle.symbolic_prep.specs.Orders.{IsMoved}
use Rattle.symbolic_prep.proofs.by_number.ordered_if.Goals as goal

held_too : {T E : Type 0} (P : T → Type 0) (Q : Type 0) (r : Result T E) → IfOk r P → IfOk r (λ v. Q → P v)
held_too P Q (Ok v) h = λ q. h
held_too P Q (Err e) h = tt

pub returns : goal.returns
returns c =
    let spans = c.args.spans.now in
    held_too _ _ c.ordered.result
    (subst (λ (ns : List ℕ). IfOk c.ordered.result (λ parts. AllZip (IsMoved ns parts.1.items) (map (λ n. get_or spans n None) c.args.order.now) parts.0.items))
    (c.as_slice.ensures.value ∙ c.rename.ensures) c.ordered.ensures)
