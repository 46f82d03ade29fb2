use Rattle.std.proofs.Common.{◌≡◌, ◌+◌, ◌++◌, take}
use Rattle.std.specs.List.{sum_by}
use Rattle.anick_chains.specs.Tallies.{tallies_with}
use Rattle.anick_chains.proofs.tallies.push_each.Given as goal

abbrev pub invariant-loop-piece : goal.invariant-loop-piece
invariant-loop-piece l = record {
  pushed : l.block.items ≡ l.fn.block.items ++ tallies_with l.degree l.size l.count (take l.piece-index l.pieces);
  total : l.fn.room ≡ l.room + sum_by (λ r. l.count) (take l.piece-index l.pieces);
}
