use Rattle.std.proofs.Common.{length, ◌-◌, ◌<◌}
use Rattle.lead_index.specs.declared.steps.Step.{Step}
use Rattle.lead_index.specs.Steps.{IsStep}
use Rattle.lead_index.proofs.steps.step_at.Given as goal

abbrev pub invariant-loop-sibling : goal.invariant-loop-sibling
invariant-loop-sibling l = (l.sibling < length l.nodes)
    × ((step : Step) → IsStep l.nodes l.sibling l.letter step → IsStep l.nodes l.node l.letter step)

abbrev pub decreases-loop-sibling : goal.decreases-loop-sibling
decreases-loop-sibling l = length l.nodes - l.sibling
