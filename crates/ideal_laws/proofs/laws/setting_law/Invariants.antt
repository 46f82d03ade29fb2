use Rattle.std.proofs.Common.{All, take}
use Rattle.free_poly.specs.Poly.{IsPolynomial}
use Rattle.ideal_laws.proofs.laws.setting_law.Given as goal

abbrev pub invariant-loop-relation : goal.invariant-loop-relation
invariant-loop-relation l = All IsPolynomial (take l.relation-index l.presentation.relations)
