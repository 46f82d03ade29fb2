use Rattle.field_table.proofs.field.+inverse_of.Given as goal

abbrev pub decreases-inverse_of : goal.decreases-inverse_of
decreases-inverse_of l = l.a
