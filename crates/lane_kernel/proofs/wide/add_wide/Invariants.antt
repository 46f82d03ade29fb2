use Rattle.std.proofs.Common.{◌*◌}
use Rattle.lane_kernel.specs.Lanes.{IsAddedUpto}
use Rattle.lane_kernel.proofs.wide.add_wide.Given as goal

abbrev pub invariant-loop-block : goal.invariant-loop-block
invariant-loop-block l = IsAddedUpto l.p l.a l.initial.y l.x (l.block * 8) l.y
