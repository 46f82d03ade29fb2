use Rattle.std.proofs.Common.{◌≡◌, ◌++◌, ◌-◌}
use Rattle.std.specs.List.{flat_map, range_with_len}
use Rattle.anick_chains.specs.Tallies.{count_of, number_of}
use Rattle.anick_chains.proofs.counting.push_counts.Given as goal

abbrev pub invariant-loop-size : goal.invariant-loop-size
invariant-loop-size l = l.counts.items ≡ l.fn.counts.items
    ++ flat_map (λ n. count_of l.degree n (number_of n l.tallies)) (range_with_len 1 (l.size - 1))
