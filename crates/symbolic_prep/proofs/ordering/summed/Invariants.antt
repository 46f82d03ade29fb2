use Rattle.std.proofs.Common.{◌≡◌, ◌-◌, ◌%◌, map, take}
use Rattle.std.specs.List.{range_with_len}
use Rattle.symbolic_prep.proofs.ordering.summed.Given as goal

abbrev pub invariant-loop-number : goal.invariant-loop-number
invariant-loop-number l = record {
  keys : map (λ s. s - s % 1048576) l.sums.items ≡ take l.number l.keys;
  numbers : map (λ s. s % 1048576) l.sums.items ≡ map (λ n. n) (range_with_len 0 l.number);
}
