use Rattle.std.proofs.Common.{lit<}
use Rattle.pivot_table.proofs.tests.sample_field.Goals as goal

pub new-requires-clause-field : goal.new-requires-clause-field
new-requires-clause-field c = c.listed_moduli_law.ensures 6 0 (lit< tt)
