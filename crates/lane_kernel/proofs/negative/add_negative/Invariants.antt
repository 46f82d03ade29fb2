use Rattle.std.proofs.Common.{◌-◌, ◌*◌}
use Rattle.lane_kernel.specs.Lanes.{IsAddedUpto}
use Rattle.lane_kernel.proofs.negative.add_negative.Given as goal

abbrev pub invariant-loop-block : goal.invariant-loop-block
invariant-loop-block l = IsAddedUpto l.p (l.p - 1) l.initial.y l.x (l.block * 8) l.y
