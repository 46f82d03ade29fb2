use Rattle.std.proofs.Common.{take}
use Rattle.free_poly.specs.Degrees.{IsGreatestDegree}
use Rattle.free_poly.proofs.degrees.greatest_degree.Given as goal

abbrev pub invariant-loop-term : goal.invariant-loop-term
invariant-loop-term l = IsGreatestDegree l.alphabet.weights (take l.term-index l.terms) l.greatest
