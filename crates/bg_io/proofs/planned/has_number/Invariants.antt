use Rattle.std.proofs.Common.{ℕ, ◌≢◌, ◌<◌, slice_index_or}
use Rattle.bg_io.proofs.planned.has_number.Given as goal

abbrev pub invariant-loop-candidate : goal.invariant-loop-candidate
invariant-loop-candidate l = (k : ℕ) → k < l.candidate-index → slice_index_or l.numbers k l.number ≢ l.number
