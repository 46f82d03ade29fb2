use Rattle.std.proofs.Common.{◌∙◌}
use Rattle.lane_kernel.proofs.LaneLists.{negative_lanes}
use Rattle.lane_kernel.proofs.negative.negatives.Goals as goal

pub returns : goal.returns
returns c = c.capped.ensures ∙ negative_lanes c.args.p 8 c.args.x c.requires.small c.fits-x.0 c.requires.residues
