use Rattle.std.proofs.Common.{◌≡◌, take}
use Rattle.free_poly.specs.Terms.{product}
use Rattle.free_poly.proofs.poly.Poly.times.Given as goal

abbrev pub invariant-loop-term : goal.invariant-loop-term
invariant-loop-term l = l.terms.items ≡ product l.left (take l.term-index l.self) l.right
