use Rattle.std.proofs.Common.{◌≡◌, ◌++◌, map, take}
use Rattle.std.specs.List.{flat_map}
use Rattle.cofactors.specs.ProductList.{triple}
use Rattle.cofactors.proofs.triples.push_rounds.Given as goal

abbrev pub invariant-loop-left : goal.invariant-loop-left
invariant-loop-left l = l.found.items ≡ l.initial.found.items ++ flat_map (λ u. map (triple l.number u) l.rights) (take l.left-index l.lefts)
