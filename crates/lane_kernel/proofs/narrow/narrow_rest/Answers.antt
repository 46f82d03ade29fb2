use Rattle.std.proofs.Common.{arith, lit≤, refl}
use Rattle.lane_kernel.proofs.LaneLists.{rest_lanes}
use Rattle.lane_kernel.proofs.narrow.narrow_rest.Goals as goal

pub returns : goal.returns
returns c = rest_lanes 4294967296 65536 c.args.p c.args.a c.args.quotient 8 16 c.args.x (omega arith) (lit≤ tt) c.requires.factor
    c.requires.quotient c.fits-x.0 c.requires.residues refl
