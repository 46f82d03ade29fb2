use Rattle.std.proofs.Common.{◌≡◌, ◌-◌, ◌^◌, length, min, take}
use Rattle.cofactors.specs.ProductList.{triples_from}
use Rattle.cofactors.proofs.triples.count_triples.Given as goal

abbrev pub invariant-loop-relation : goal.invariant-loop-relation
invariant-loop-relation l = l.count ≡ min (length (triples_from l.presentation.alphabet.weights l.d 1
    (take l.relation-index l.presentation.relations))) (2 ^ 64 - 1)
