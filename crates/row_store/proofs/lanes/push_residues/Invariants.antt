use Rattle.std.proofs.Common.{◌≡◌, ◌<◌, ◌≤◌, ℕ, get_or, length}
use Rattle.row_store.specs.declared.left.Left.{Left}
use Rattle.row_store.specs.Blocks.{IsKept}
use Rattle.row_store.proofs.lanes.push_residues.Given as goal

abbrev pub invariant-loop-i : goal.invariant-loop-i
invariant-loop-i l = record {
  count : length l.left ≡ 8;
  kept : (k : ℕ) (d : Left) → k < l.i → IsKept l.place (get_or l.residues k 0) (get_or l.initial.left k d) (get_or l.left k d);
  others : (k : ℕ) (d : Left) → l.i ≤ k → get_or l.left k d ≡ get_or l.initial.left k d;
}
