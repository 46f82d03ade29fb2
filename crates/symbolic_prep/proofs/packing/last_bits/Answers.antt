use Rattle.std.proofs.Common.{arith, sym}
use Rattle.std.proofs.Math.Nat.{mod-eq_of_lt, pow-le-pow_right}
use Rattle.symbolic_prep.proofs.packing.last_bits.Goals as goal

pub returns-then-count-ge64 : goal.returns-then-count-ge64
returns-then-count-ge64 c = sym (mod-eq_of_lt (omega (arith, c.ranges.key.fits, pow-le-pow_right {n = 2} (omega arith) c.if-count-ge64.true)))
