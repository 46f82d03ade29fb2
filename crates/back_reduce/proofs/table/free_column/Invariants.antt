use Rattle.std.proofs.Common.{◌≡◌, ◌<◌, ℕ, All, get_or}
use Rattle.back_reduce.specs.Table.{IsPlusHeld}
use Rattle.back_reduce.proofs.table.free_column.Given as goal

abbrev pub invariant-loop-at : goal.invariant-loop-at
invariant-loop-at l = record {
  residues : All (λ r. r < l.field) l.row;
  before : (k : ℕ) → k < l.at → get_or l.row k 0 ≡ 0;
  reduced : IsPlusHeld l.field l.table l.initial.row l.row;
}
