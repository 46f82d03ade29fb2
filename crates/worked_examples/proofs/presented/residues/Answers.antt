use Rattle.worked_examples.proofs.presented.residues.Goals as goal

pub new-requires-clause-field : goal.new-requires-clause-field
new-requires-clause-field g c = c.listed_moduli_law.ensures c.loop-place.place 0 c.loop-place-test.true
