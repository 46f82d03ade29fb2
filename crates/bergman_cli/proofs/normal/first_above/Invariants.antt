use Rattle.std.proofs.Common.{◌<◌, ℕ, []}
use Rattle.std.specs.Prelude.{slice_index_or}
use Rattle.bergman_cli.specs.Normal.{IsAbove}
use Rattle.bergman_cli.proofs.normal.first_above.Given as goal

abbrev pub invariant-loop-place : goal.invariant-loop-place
invariant-loop-place l = (k : ℕ) → k < l.place → IsAbove l.alphabet.weights l.bound (slice_index_or l.questions k []) → ⊥
