use Rattle.std.proofs.Common.{◌≡◌, ◌≤◌, ◌++◌, length, take}
use Rattle.std.specs.List.{flat_map}
use Rattle.anick_chains.specs.Listed.{with_degree}
use Rattle.anick_chains.specs.Walk.{onward}
use Rattle.anick_chains.proofs.longer.push_onward.Given as goal

abbrev pub invariant-loop-chain : goal.invariant-loop-chain
invariant-loop-chain l = record {
  so_far : l.block.items ≡ l.fn.block.items ++ with_degree l.degree
      (flat_map (λ x. onward l.tips.basis.now.weights l.tips.basis.now.elements l.degree x.pieces) (take l.chain-index l.found));
  within : length l.block.items ≤ l.room;
}
