use Rattle.bergman_cli.proofs.Posed.{has_one_gb_outcome}
use Rattle.bergman_cli.proofs.gb.gb_law.Goals as goal

pub returns : goal.returns
returns c = has_one_gb_outcome
