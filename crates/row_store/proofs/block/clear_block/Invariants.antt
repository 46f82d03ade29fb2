use Rattle.std.proofs.Common.{◌*◌}
use Rattle.row_store.specs.Blocks.{lane, AreWalked}
use Rattle.row_store.specs.Entries.{reducers_over}
use Rattle.row_store.proofs.block.clear_block.Given as goal

abbrev pub invariant-loop-k : goal.invariant-loop-k
invariant-loop-k l = AreWalked l.p (reducers_over l.closed) (λ i. lane l.initial.sums i) (l.k * 64) l.sums l.bits l.left
