use Rattle.std.proofs.Common.{◌≡◌, ◌≢◌, ◌<◌, ℕ, take}
use Rattle.row_store.specs.Blocks.{lane}
use Rattle.row_store.specs.Entries.{dense_of}
use Rattle.row_store.specs.Marks.{AreMarks}
use Rattle.row_store.proofs.rows.write_lane.Given as goal

abbrev pub invariant-loop-term : goal.invariant-loop-term
invariant-loop-term l = record {
  own : lane l.sums l.i ≡ dense_of l.closed.columns (take l.term-index l.terms);
  others : (j : ℕ) → j < 8 → j ≢ l.i → lane l.sums j ≡ lane l.initial.sums j;
  marks : (j : ℕ) → j < 8 → AreMarks (lane l.sums j) l.bits;
}
