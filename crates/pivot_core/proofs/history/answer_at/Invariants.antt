use Rattle.std.proofs.Common.{◌≡◌, reverse, take}
use Rattle.pivot_core.specs.History.{answer_after}
use Rattle.pivot_core.proofs.history.answer_at.Given as goal

abbrev pub invariant-loop-place : goal.invariant-loop-place
invariant-loop-place l = answer_after (reverse l.done) l.column ≡ answer_after (reverse (take l.place l.done)) l.column
