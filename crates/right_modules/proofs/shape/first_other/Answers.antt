use Rattle.std.proofs.Common.{◌∙◌, All, arith, rules, subst, sym}
use Rattle.std.proofs.lemmas.List.{take_all}
use Rattle.std.proofs.lemmas.List.Elements.{All-more}
use Rattle.right_modules.specs.Module.{IsShaped}
use Rattle.right_modules.proofs.FirstOther.{first_other}
use Rattle.right_modules.proofs.shape.first_other.Goals as goal

pub returns-then-not-is_shaped : goal.returns-then-not-is_shaped
returns-then-not-is_shaped c =
    let r = c.index-relations-place in
    first_other c.args.free c.args.relations.now c.loop-place.place r.result (omega arith) r.is c.loop-place.invariant
    (λ shaped. let t = c.if-not-is_shaped.ensures.1 (subst (IsShaped c.args.free) (sym c.terms.ensures.value) shaped) in cc)

pub loop-place-preserved : goal.loop-place-preserved
loop-place-preserved c =
    let r = c.index-relations-place in
    let shaped = c.is_shaped.ensures.0 (search rules) in
    All-more (IsShaped c.args.free) c.args.relations.now c.loop-place.place r.result (omega arith) c.loop-place.invariant
    (subst (IsShaped c.args.free) (c.terms.ensures.value ∙ r.is) shaped)

pub returns : goal.returns
returns c = subst (All (IsShaped c.args.free)) (take_all c.loop-place.place c.args.relations.now (omega arith)) c.loop-place.invariant
