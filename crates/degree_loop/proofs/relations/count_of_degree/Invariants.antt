use Rattle.std.proofs.Common.{◌≡◌, length, take}
use Rattle.ideal_laws.specs.Engine.{of_degree}
use Rattle.degree_loop.proofs.relations.count_of_degree.Given as goal

abbrev pub invariant-loop-relation : goal.invariant-loop-relation
invariant-loop-relation l = l.count ≡ length (of_degree l.presentation.alphabet.weights l.d (take l.relation-index l.presentation.relations))
