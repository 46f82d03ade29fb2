use Rattle.ideal_laws.proofs.Dimensions.{has_one_dimension}
use Rattle.ideal_laws.proofs.Factors.{factor_law}
use Rattle.ideal_laws.proofs.Neighbours.{neighbour_span}
use Rattle.ideal_laws.proofs.OneBasis.{has_one_basis}
use Rattle.ideal_laws.proofs.laws.basis_laws.Goals as goal

pub returns-clause-one_basis : goal.returns-clause-one_basis
returns-clause-one_basis c = has_one_basis

pub returns-clause-factors : goal.returns-clause-factors
returns-clause-factors c = factor_law

pub returns-clause-neighbours : goal.returns-clause-neighbours
returns-clause-neighbours c = neighbour_span

pub returns-clause-dimension : goal.returns-clause-dimension
returns-clause-dimension c = has_one_dimension
