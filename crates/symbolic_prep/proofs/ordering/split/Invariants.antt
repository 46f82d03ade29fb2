use Rattle.std.proofs.Common.{◌≡◌, ◌-◌, ◌%◌, map, take}
use Rattle.symbolic_prep.proofs.ordering.split.Given as goal

abbrev pub invariant-loop-sum : goal.invariant-loop-sum
invariant-loop-sum l = record {
  keys : l.keys.items ≡ map (λ s. s - s % 1048576) (take l.sum-index l.sums);
  numbers : l.numbers.items ≡ map (λ s. s % 1048576) (take l.sum-index l.sums);
}
