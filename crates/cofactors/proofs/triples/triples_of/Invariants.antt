use Rattle.std.proofs.Common.{◌≡◌, take}
use Rattle.cofactors.specs.ProductList.{triples_from}
use Rattle.cofactors.proofs.triples.triples_of.Given as goal

abbrev pub invariant-loop-at : goal.invariant-loop-at
invariant-loop-at l = l.found.items ≡ triples_from l.presentation.alphabet.weights l.d 1 (take l.at l.presentation.relations)
