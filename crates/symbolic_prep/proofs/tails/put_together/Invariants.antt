use Rattle.std.proofs.Common.{◌≡◌, ◌+◌, ◌<◌, [], ℕ, All, None, length, slice_index_or}
use Rattle.symbolic_prep.specs.PackedWords.{IsPackedWord}
use Rattle.symbolic_prep.specs.Tails.{HasTail}
use Rattle.symbolic_prep.proofs.tails.put_together.Given as goal

abbrev pub invariant-loop-next : goal.invariant-loop-next
invariant-loop-next l = record {
  size : length l.tails.items ≡ l.next;
  packed : All (IsPackedWord l.table.bits l.table.room) l.words.items;
  each : (i : ℕ) → i < length l.tails.items → HasTail l.basis.elements l.table.bits l.table.room l.words.items
      (slice_index_or l.table.words (l.from + i) []) (slice_index_or l.tails.items i None);
}
