use Rattle.std.proofs.Common.{◌+◌, length}
use Rattle.cofactors.proofs.FactorMerges.{Merges}
use Rattle.cofactors.proofs.factors.plus_times.Given as goal

abbrev pub invariant-loop-first_left : goal.invariant-loop-first_left
invariant-loop-first_left l = Merges l.field l.a l.fn.first l.fn.second l.merged.items l.first_left l.second_left

abbrev pub decreases-loop-first_left : goal.decreases-loop-first_left
decreases-loop-first_left l = length l.first_left + length l.second_left
