use Rattle.back_reduce.proofs.OneForm.{has_one_rref}
use Rattle.back_reduce.proofs.laws.echelon_law.Goals as goal

pub returns : goal.returns
returns c = has_one_rref
