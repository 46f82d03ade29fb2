use Rattle.std.proofs.Common.{◌∙◌}
use Rattle.lane_kernel.proofs.LaneLists.{sum_lanes}
use Rattle.lane_kernel.proofs.lanes.sums.Goals as goal

pub returns : goal.returns
returns c = c.capped.ensures ∙ sum_lanes c.args.p c.args.first c.args.second c.requires.small c.requires.first c.requires.second
