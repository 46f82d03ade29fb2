use Rattle.std.proofs.Common.{◌≡◌, ◌-◌, ◌^◌, min, take}
use Rattle.ideal_laws.specs.Quantities.{terms_in}
use Rattle.degree_loop.proofs.terms.terms_of.Given as goal

abbrev pub invariant-loop-element : goal.invariant-loop-element
invariant-loop-element l = l.count ≡ min (terms_in (take l.element-index l.elements)) (2 ^ 64 - 1)
