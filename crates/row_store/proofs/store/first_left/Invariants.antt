use Rattle.std.proofs.Common.{take}
use Rattle.row_laws.specs.Contested.{AreContestedRows}
use Rattle.row_store.proofs.store.first_left.Given as goal

abbrev pub invariant-loop-row : goal.invariant-loop-row
invariant-loop-row l = AreContestedRows l.field l.closed.columns l.closed.reducers (take l.row-index l.rows) l.left.items
