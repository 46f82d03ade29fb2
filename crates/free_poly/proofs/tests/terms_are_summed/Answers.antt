use Rattle.std.proofs.Common.{lit<}
use Rattle.field_table.proofs.Listed.{listed_are_fields}
use Rattle.free_poly.proofs.tests.terms_are_summed.Goals as goal

pub new-requires-clause-field : goal.new-requires-clause-field
new-requires-clause-field g c = listed_are_fields 3 0 (lit< tt)
