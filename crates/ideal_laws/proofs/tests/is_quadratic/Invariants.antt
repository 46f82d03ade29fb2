use Rattle.std.proofs.Common.{[], ◌∷◌, take}
use Rattle.free_poly.specs.Terms.{HasDegree, UsesLetters}
use Rattle.ideal_laws.proofs.tests.is_quadratic.Given as goal

abbrev pub invariant-loop-term : goal.invariant-loop-term
invariant-loop-term l = UsesLetters 2 (take l.term-index l.terms) × HasDegree (1 ∷ 1 ∷ []) 2 (take l.term-index l.terms)
