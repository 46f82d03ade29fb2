use Rattle.std.proofs.Common.{◌≡◌, ◌++◌, map, take}
use Rattle.cofactors.specs.ProductList.{triple}
use Rattle.cofactors.proofs.triples.push_rights.Given as goal

abbrev pub invariant-loop-right : goal.invariant-loop-right
invariant-loop-right l = l.found.items ≡ l.initial.found.items ++ map (triple l.number l.left) (take l.right-index l.rights)
