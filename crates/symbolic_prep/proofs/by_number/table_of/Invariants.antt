use Rattle.std.proofs.Common.{◌≡◌, ◌≤◌, ◌↔◌, ℕ, List, length, take}
use Rattle.std.specs.List.{Contains}
use Rattle.ideal_laws.specs.Quantities.{words_of}
use Rattle.symbolic_prep.proofs.by_number.table_of.Given as goal

abbrev pub invariant-loop-row : goal.invariant-loop-row
invariant-loop-row l = record {
  words : (w : List ℕ) → Contains l.table.words w ↔ Contains (words_of (take l.row-index l.rows)) w;
  within : length l.table.words ≤ l.most;
  bits : l.table.bits ≡ l.fn.packing.bits;
  room : l.table.room ≡ l.fn.packing.room;
}
