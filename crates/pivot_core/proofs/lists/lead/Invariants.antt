use Rattle.std.proofs.Common.{◌≤◌}
use Rattle.pivot_core.specs.Views.{lead_at}
use Rattle.pivot_core.proofs.lists.lead.Given as goal

abbrev pub invariant-loop-at : goal.invariant-loop-at
invariant-loop-at l = l.at ≤ lead_at l.row
