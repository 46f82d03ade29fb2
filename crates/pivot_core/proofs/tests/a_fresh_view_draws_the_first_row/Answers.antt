use Rattle.std.proofs.Common.{lit<}
use Rattle.pivot_core.proofs.tests.a_fresh_view_draws_the_first_row.Goals as goal

pub new-requires-clause-field : goal.new-requires-clause-field
new-requires-clause-field g c = c.listed_moduli_law.ensures 6 0 (lit< tt)
