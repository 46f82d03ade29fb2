use Rattle.std.proofs.Common.{◌≡◌, map, take}
use Rattle.std.specs.List.{range_with_len}
use Rattle.symbolic_prep.proofs.ordering.numbered.Given as goal

abbrev pub invariant-loop-number : goal.invariant-loop-number
invariant-loop-number l = record {
  keys : map (λ p. p.0) l.pairs.items ≡ take l.number l.keys;
  numbers : map (λ p. p.1) l.pairs.items ≡ map (λ n. n) (range_with_len 0 l.number);
}
