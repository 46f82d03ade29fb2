use Rattle.std.proofs.Common.{◌≡◌, ◌+◌, ◌-◌, ◌++◌}
use Rattle.std.specs.List.{flat_map}
use Rattle.cofactors.specs.ProductList.{numbers_below, round_triples}
use Rattle.cofactors.proofs.triples.push_triples.Given as goal

abbrev pub invariant-loop-behind : goal.invariant-loop-behind
invariant-loop-behind l = l.found.items ++ flat_map (round_triples l.alphabet.weights l.number l.around) (numbers_below (l.around + 1 - l.behind))
    ≡ l.initial.found.items ++ flat_map (round_triples l.alphabet.weights l.number l.around) (numbers_below (l.around + 1))
