use Rattle.field_table.proofs.Listed.{listed_are_fields}
use Rattle.field_table.proofs.tests.listed_field.Goals as goal

pub new-requires-clause-field : goal.new-requires-clause-field
new-requires-clause-field c = listed_are_fields c.args.place 0 c.requires
