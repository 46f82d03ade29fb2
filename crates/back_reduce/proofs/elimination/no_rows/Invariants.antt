use Rattle.std.proofs.Common.{◌≡◌, None, replicate}
use Rattle.back_reduce.proofs.elimination.no_rows.Given as goal

abbrev pub invariant-loop : goal.invariant-loop
invariant-loop l = l.table.items ≡ replicate l.counter None
