use Rattle.std.proofs.Common.{All}
use Rattle.pivot_table.specs.Workers.{IsOf}
use Rattle.pivot_table.proofs.tests.a_row_is_read_at_once.Given as goal

abbrev pub invariant-loop-seat : goal.invariant-loop-seat
invariant-loop-seat g l = All (IsOf l.race) l.crew.items
