use Rattle.std.proofs.Common.{◌≡◌, ◌≤◌, length, map}
use Rattle.overlaps.specs.Listed.{obstruction_of}
use Rattle.overlaps.proofs.Sums.{all_upto}
use Rattle.overlaps.proofs.listing.obstructions.Given as goal

abbrev pub invariant-loop-left : goal.invariant-loop-left
invariant-loop-left l = record {
  so_far : l.found.items ≡ map obstruction_of (all_upto l.basis.weights l.basis.elements l.d l.left);
  within : length l.found.items ≤ l.most;
}
