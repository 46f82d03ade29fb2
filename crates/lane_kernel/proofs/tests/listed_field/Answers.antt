use Rattle.lane_kernel.proofs.tests.listed_field.Goals as goal

pub new-requires-clause-field : goal.new-requires-clause-field
new-requires-clause-field c = c.listed_moduli_law.ensures c.args.place 0 c.requires
