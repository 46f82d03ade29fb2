use Rattle.std.proofs.Common.{◌≡◌}
use Rattle.back_reduce.specs.Rows.{cut_rows}
use Rattle.back_reduce.proofs.problem.rows_in.Given as goal

abbrev pub invariant-loop-r : goal.invariant-loop-r
invariant-loop-r l = l.rows.items ≡ cut_rows l.m l.r l.cells
