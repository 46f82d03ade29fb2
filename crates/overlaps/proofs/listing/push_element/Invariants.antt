use Rattle.std.proofs.Common.{◌≡◌, ◌++◌, ◌-◌, ◌≤◌, length, map, take}
use Rattle.words.specs.Words.{degree_of}
use Rattle.overlaps.specs.Listed.{obstruction_of}
use Rattle.overlaps.specs.Walk.{lead_word}
use Rattle.overlaps.proofs.Sums.{blocks_upto}
use Rattle.overlaps.proofs.listing.push_element.Given as goal

abbrev pub invariant-loop-before : goal.invariant-loop-before
invariant-loop-before l = record {
  degree : l.degree ≡ degree_of l.basis.weights (take (l.before - 1) (lead_word l.basis.elements l.left));
  so_far : l.found.items ≡ l.fn.found.items ++ map obstruction_of (blocks_upto l.basis.weights l.basis.elements l.d l.left (l.before - 1));
  within : length l.found.items ≤ l.most;
}
