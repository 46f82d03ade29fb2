use Rattle.back_reduce.specs.Table.{IsEliminated}
use Rattle.back_reduce.proofs.elimination.table_of.Given as goal

abbrev pub invariant-loop-r : goal.invariant-loop-r
invariant-loop-r l = IsEliminated l.problem l.r l.table.items
