use Rattle.lane_kernel.proofs.LaneLists.{less_lanes}
use Rattle.row_store.proofs.lanes.capped.Goals as goal

pub returns : goal.returns
returns c = less_lanes c.args.p 8 c.args.lanes c.ranges.p.fits c.fits-lanes.0 c.fits-lanes.1
