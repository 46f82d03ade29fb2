use Rattle.std.proofs.Common.{◌*◌, ℕ, List}
use Rattle.row_store.specs.Entries.{reducers_over}
use Rattle.row_store.specs.Blocks.{AreWalked}
use Rattle.row_store.proofs.WordWalks.{GoesOn}
use Rattle.row_store.proofs.block.clear_word.Given as goal

abbrev pub invariant-loop-step : goal.invariant-loop-step
invariant-loop-step l = GoesOn l.k l.step
    (λ (starts : ℕ → List ℕ). AreWalked l.p (reducers_over l.closed) starts (l.k * 64) l.initial.sums l.initial.bits l.initial.left)
    (λ starts at. AreWalked l.p (reducers_over l.closed) starts at l.sums l.bits l.left)
