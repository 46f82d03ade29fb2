use Rattle.std.proofs.Common.{◌≡◌, take}
use Rattle.ideal_laws.specs.Engine.{of_degree}
use Rattle.degree_loop.proofs.relations.relations_of_degree.Given as goal

abbrev pub invariant-loop-relation : goal.invariant-loop-relation
invariant-loop-relation l = l.found.items ≡ of_degree l.presentation.alphabet.weights l.d (take l.relation-index l.presentation.relations)
