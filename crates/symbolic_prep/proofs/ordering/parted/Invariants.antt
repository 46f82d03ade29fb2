use Rattle.std.proofs.Common.{◌≡◌, map, take}
use Rattle.symbolic_prep.proofs.ordering.parted.Given as goal

abbrev pub invariant-loop-pair : goal.invariant-loop-pair
invariant-loop-pair l = record {
  keys : l.keys.items ≡ map (λ p. p.0) (take l.pair-index l.pairs);
  numbers : l.numbers.items ≡ map (λ p. p.1) (take l.pair-index l.pairs);
}
