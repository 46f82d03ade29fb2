use Rattle.std.proofs.Common.{◌≡◌, ◌++◌, ◌≤◌, length, map}
use Rattle.overlaps.specs.Listed.{obstruction_of}
use Rattle.overlaps.proofs.Blocks.{block_upto}
use Rattle.overlaps.proofs.listing.push_block.Given as goal

abbrev pub invariant-loop-right : goal.invariant-loop-right
invariant-loop-right l = record {
  so_far : l.found.items ≡ l.fn.found.items ++ map obstruction_of (block_upto l.basis.weights l.basis.elements l.left l.before l.rest l.right);
  within : length l.found.items ≤ l.most;
}
