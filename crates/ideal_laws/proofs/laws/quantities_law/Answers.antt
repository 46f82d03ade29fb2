use Rattle.ideal_laws.proofs.OneQuantity.{one_quantity}
use Rattle.ideal_laws.proofs.laws.quantities_law.Goals as goal

pub returns : goal.returns
returns c = one_quantity
