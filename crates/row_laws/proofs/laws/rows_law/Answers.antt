use Rattle.row_laws.proofs.OneRow.{leaves_one_row}
use Rattle.row_laws.proofs.RowBasis.{rows_give_basis}
use Rattle.row_laws.proofs.laws.rows_law.Goals as goal

pub returns-clause-one : goal.returns-clause-one
returns-clause-one c = leaves_one_row

pub returns-clause-basis : goal.returns-clause-basis
returns-clause-basis c = rows_give_basis
