use Rattle.std.proofs.Common.{◌≡◌, ◌<◌, ◌≤◌, ℕ, List, get_or, length, replicate}
use Rattle.free_poly.specs.declared.term.Term.{Term}
use Rattle.free_poly.specs.Poly.{IsPolynomial}
use Rattle.row_store.specs.Blocks.{lane}
use Rattle.row_store.specs.Entries.{dense_of}
use Rattle.row_store.specs.Marks.{AreMarks}
use Rattle.row_store.proofs.eight.write_lanes.Given as goal

abbrev pub invariant-loop-i : goal.invariant-loop-i
invariant-loop-i l = record {
  forms : (j : ℕ) (f : List Term) → j < l.i → IsPolynomial (get_or l.rows j f);
  done : (j : ℕ) (f : List Term) → j < l.i → lane l.sums j ≡ dense_of l.closed.columns (get_or l.rows j f);
  open_lanes : (j : ℕ) → l.i ≤ j → j < 8 → lane l.sums j ≡ replicate (length l.closed.columns) 0;
  marks : (j : ℕ) → j < 8 → AreMarks (lane l.sums j) l.bits;
}
