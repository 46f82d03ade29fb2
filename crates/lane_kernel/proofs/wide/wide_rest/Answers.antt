use Rattle.std.proofs.Common.{arith, lit≤, refl}
use Rattle.lane_kernel.proofs.LaneLists.{rest_lanes}
use Rattle.lane_kernel.proofs.wide.wide_rest.Goals as goal

pub returns : goal.returns
returns c = rest_lanes 18446744073709551616 4294967296 c.args.p c.args.a c.args.quotient 8 32 c.args.x (omega arith) (lit≤ tt)
    c.requires.factor c.requires.quotient c.fits-x.0 c.requires.residues refl
