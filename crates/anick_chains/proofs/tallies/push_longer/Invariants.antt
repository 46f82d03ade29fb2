use Rattle.std.proofs.Common.{◌≡◌, ◌+◌, ◌++◌, take}
use Rattle.std.specs.List.{flat_map, sum_by}
use Rattle.anick_chains.specs.Tallies.{longer_tallies, tally_total}
use Rattle.anick_chains.proofs.tallies.push_longer.Given as goal

abbrev pub invariant-loop-tally : goal.invariant-loop-tally
invariant-loop-tally l = record {
  longer : l.block.items ≡ l.fn.block.items
      ++ flat_map (longer_tallies l.tips.basis.now.weights l.tips.basis.now.elements l.degree) (take l.tally-index l.below);
  total : l.fn.room ≡ l.room
      + sum_by (λ t. tally_total (longer_tallies l.tips.basis.now.weights l.tips.basis.now.elements l.degree t)) (take l.tally-index l.below);
}
