use Rattle.std.proofs.Common.{◌≡◌, ◌<◌, ℕ, List, All, take}
use Rattle.std.specs.List.{sum_by}
use Rattle.anick_chains.specs.Tallies.{tally_weight}
use Rattle.anick_chains.proofs.merging.merged.Given as goal

abbrev pub invariant-loop-tally : goal.invariant-loop-tally
invariant-loop-tally l = record {
  same : (f : ℕ → ℕ → List ℕ → ℕ) → sum_by (tally_weight f) l.found.items ≡ sum_by (tally_weight f) (take l.tally-index l.tally-items);
  some : All (λ t. 0 < t.count) l.found.items;
}
