use Rattle.field_table.specs.Table.{IsTableUpto}
use Rattle.field_table.proofs.field.table_of.Given as goal

abbrev pub invariant-loop-a : goal.invariant-loop-a
invariant-loop-a l = IsTableUpto l.modulus l.inverses.items l.a
