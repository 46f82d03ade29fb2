use Rattle.field_table.proofs.Listed.{listed_are_fields}
use Rattle.field_table.proofs.field.listed_moduli_law.Goals as goal

pub returns : goal.returns
returns c = listed_are_fields
