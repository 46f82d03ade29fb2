use Rattle.ideal_laws.proofs.Lower.{lists_factor_free, lists_lower}
use Rattle.ideal_laws.proofs.laws.lower_law.Goals as goal

pub returns-clause-lower : goal.returns-clause-lower
returns-clause-lower c = lists_lower

pub returns-clause-factors : goal.returns-clause-factors
returns-clause-factors c = lists_factor_free
