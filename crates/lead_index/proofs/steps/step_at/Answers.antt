use Rattle.std.proofs.Common.{arith, subst, sym}
use Rattle.std.proofs.lemmas.Option.{slice_get-get_or}
use Rattle.lead_index.specs.Steps.{IsStep}
use Rattle.lead_index.specs.Steps.IsStep.{beside, here, nowhere}
use Rattle.lead_index.proofs.steps.step_at.Goals as goal

pub returns-then-here-letter : goal.returns-then-here-letter
returns-then-here-letter c =
    c.loop-sibling.invariant.1 c.step_of.result (subst (IsStep c.args.nodes.now c.loop-sibling.sibling c.args.letter) (sym c.step_of.ensures)
    (here c.loop-sibling.sibling _ c.args.letter (slice_get-get_or _ _ _ c.loop-sibling.invariant.0) c.if-here-letter.true))

pub returns-in_default : goal.returns-in_default
returns-in_default c = c.loop-sibling.invariant.1 _
    (nowhere c.loop-sibling.sibling _ c.args.letter (slice_get-get_or _ _ _ c.loop-sibling.invariant.0) c.if-here-letter.false c.in_default.is)

pub loop-sibling-smaller : goal.loop-sibling-smaller
loop-sibling-smaller c =
    let next = c.requires.rising.siblings c.loop-sibling.sibling c.in-Some.next _ (slice_get-get_or _ _ _ c.loop-sibling.invariant.0) c.in-Some.is in
    omega (arith, next.0, next.1)

pub loop-sibling-preserved : goal.loop-sibling-preserved
loop-sibling-preserved c =
    let stands = slice_get-get_or c.args.nodes.now c.loop-sibling.sibling _ c.loop-sibling.invariant.0 in
    let next = c.requires.rising.siblings c.loop-sibling.sibling c.in-Some.next _ stands c.in-Some.is in (
      next.1,
      λ step h. c.loop-sibling.invariant.1 step
          (beside c.loop-sibling.sibling c.in-Some.next _ c.args.letter step stands c.if-here-letter.false c.in-Some.is h),
    )
