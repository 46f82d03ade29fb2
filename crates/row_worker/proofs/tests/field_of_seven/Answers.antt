use Rattle.std.proofs.Common.{lit<}
use Rattle.row_worker.proofs.tests.field_of_seven.Goals as goal

pub new-requires-clause-field : goal.new-requires-clause-field
new-requires-clause-field c = c.listed_moduli_law.ensures 3 0 (lit< tt)
