use Rattle.row_store.proofs.LaneSums.{opposite_below, opposite_sum}
use Rattle.row_store.proofs.lanes.opposites.Goals as goal

pub returns-clause-below : goal.returns-clause-below
returns-clause-below c = λ i low.
    opposite_below c.args.p c.args.residues c.capped.result c.requires.small c.fits-residues.0 c.capped.ensures i low (c.requires.residues i low)

pub returns-clause-opposite : goal.returns-clause-opposite
returns-clause-opposite c = λ i low.
    opposite_sum c.args.p c.args.residues c.capped.result c.requires.small c.fits-residues.0 c.capped.ensures i low (c.requires.residues i low)
