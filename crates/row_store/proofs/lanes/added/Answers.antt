use Rattle.row_store.proofs.LaneSums.{added_lanes}
use Rattle.row_store.proofs.lanes.added.Goals as goal

pub returns : goal.returns
returns c = added_lanes c.args.residue c.args.sums c.args.factors c.fits-sums.0 c.fits-factors.0 c.requires.room
