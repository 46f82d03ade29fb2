use Rattle.ideal_laws.proofs.OverlapSpan.{overlaps_suffice}
use Rattle.ideal_laws.proofs.laws.overlaps_law.Goals as goal

pub returns : goal.returns
returns c = overlaps_suffice
