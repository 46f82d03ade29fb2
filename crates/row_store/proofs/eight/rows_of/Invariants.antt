use Rattle.std.proofs.Common.{◌≡◌, map}
use Rattle.row_store.specs.Sums.{cells_of}
use Rattle.row_store.proofs.eight.rows_of.Given as goal

abbrev pub invariant-loop-one : goal.invariant-loop-one
invariant-loop-one l = l.rows.items ≡ map (cells_of l.m) l.yielded
