use Rattle.std.proofs.Common.{All, List, arith, rules, subst}
use Rattle.std.proofs.lemmas.List.{take_all}
use Rattle.std.proofs.lemmas.List.Elements.{All-more}
use Rattle.free_poly.specs.declared.term.Term.{Term}
use Rattle.free_poly.specs.Poly.{IsMonic}
use Rattle.worked_examples.proofs.printed.are_monic.Goals as goal

pub loop-element-preserved : goal.loop-element-preserved
loop-element-preserved c =
    let f : List Term = c.element-item.result in
    let monic : IsMonic f = search rules in
    All-more IsMonic c.args.elements.now c.loop-element.element-index f c.loop-element-test.true c.loop-element.invariant
    (subst IsMonic c.element-item.is monic)

pub returns : goal.returns
returns c _ = subst (All IsMonic) (take_all c.loop-element.element-index c.args.elements.now (omega arith)) c.loop-element.invariant
