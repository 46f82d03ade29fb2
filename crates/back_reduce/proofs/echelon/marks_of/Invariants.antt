use Rattle.std.proofs.Common.{◌≡◌, ◌<◌, false, true, ℕ, get_or, length}
use Rattle.back_reduce.specs.declared.echelon.Leader.{Leader}
use Rattle.back_reduce.proofs.echelon.marks_of.Given as goal

abbrev pub invariant-loop-leader : goal.invariant-loop-leader
invariant-loop-leader l = record {
  size : length l.marks.items ≡ l.m;
  marked : (k : ℕ) (d : Leader) → k < l.leader-index → get_or l.marks.items (get_or l.leaders k d).column false ≡ true;
}
