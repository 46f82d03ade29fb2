use Rattle.std.proofs.Common.{lit<}
use Rattle.ideal_laws.proofs.tests.without_relations_each_degree_is_empty.Goals as goal

pub new-requires-clause-field : goal.new-requires-clause-field
new-requires-clause-field g c = c.listed_moduli_law.ensures 6 0 (lit< tt)
