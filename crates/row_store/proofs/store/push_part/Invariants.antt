use Rattle.std.proofs.Common.{◌≡◌, ◌++◌}
use Rattle.row_store.proofs.store.push_part.Given as goal

abbrev pub invariant-loop-row : goal.invariant-loop-row
invariant-loop-row l = l.rows.items ≡ l.fn.rows.items ++ l.yielded
