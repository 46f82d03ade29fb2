use Rattle.linear_algebra.specs.Mod.{residue_field}
use Rattle.linear_algebra.proofs.Dependent.{dependent}
use Rattle.linear_algebra.proofs.Elimination.{eliminated}
use Rattle.linear_algebra.proofs.Unique.{one_form}
use Rattle.linear_algebra.proofs.laws.elimination_laws.Goals as goal

pub returns-clause-basis : goal.returns-clause-basis
returns-clause-basis g c = λ p modulus columns vectors. eliminated (residue_field p modulus) _ columns vectors

pub returns-clause-one : goal.returns-clause-one
returns-clause-one g c = λ p modulus columns vectors others same first second. one_form (residue_field p modulus) _ columns vectors others same first second

pub returns-clause-dependent : goal.returns-clause-dependent
returns-clause-dependent g c = λ p modulus columns vectors. dependent (residue_field p modulus) _ columns vectors
