use Rattle.std.proofs.Common.{arith, inl, inr, ◌∙◌, sym, ap₂}
use Rattle.std.specs.Ordering.{ordering_then}
use Rattle.words.proofs.OrderFacts.{letterwise_by_front}
use Rattle.words.proofs.order.letterwise.Goals as goal
use Rattle.words.proofs.order.letterwise.Goals.{then-a-b, else-a-b}

pub returns : goal.returns
returns c =
    let n = c.if-a-b.shared in
    let a = c.args.a.now in
    let b = c.args.b.now in
    elim c.if-a-b.branch [
      | then-a-b w ↦ c.then.ensures ∙ ap₂ ordering_then c.cmp.ensures c.cmp-2.ensures
          ∙ sym (letterwise_by_front n a b (omega (arith, w.shared-is)) (omega (arith, w.shared-is, w.if-a-b.true)) (inl (sym w.shared-is)))
      | else-a-b w ↦ c.then.ensures ∙ ap₂ ordering_then c.cmp.ensures c.cmp-2.ensures
          ∙ sym (letterwise_by_front n a b (omega (arith, w.shared-is, w.if-a-b.false)) (omega (arith, w.shared-is))
          (inr (sym w.shared-is)))
    ]
