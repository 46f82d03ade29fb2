use Rattle.std.proofs.Common.{◌≡◌, ◌-◌, ◌^◌, min, take}
use Rattle.ideal_laws.specs.Quantities.{terms_in}
use Rattle.degree_loop.proofs.terms.terms_below.Given as goal

abbrev pub invariant-loop-place : goal.invariant-loop-place
invariant-loop-place l = l.count ≡ min (terms_in (take l.place l.below.elements)) (2 ^ 64 - 1)
