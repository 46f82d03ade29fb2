use Rattle.hilbert.proofs.Coefficients.{counts_coefficients}
use Rattle.hilbert.proofs.laws.count_law.Goals as goal

pub returns : goal.returns
returns c = counts_coefficients
