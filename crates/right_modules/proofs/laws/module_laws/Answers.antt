use Rattle.right_modules.proofs.ModuleCounts.{counts_module, outside_where_normal}
use Rattle.right_modules.proofs.ModuleReduced.{has_module_leads, has_one_module_basis, ideal_part}
use Rattle.right_modules.proofs.laws.module_laws.Goals as goal

pub returns-clause-part : goal.returns-clause-part
returns-clause-part c = ideal_part

pub returns-clause-one_basis : goal.returns-clause-one_basis
returns-clause-one_basis c = has_one_module_basis

pub returns-clause-leads : goal.returns-clause-leads
returns-clause-leads c = has_module_leads

pub returns-clause-counts : goal.returns-clause-counts
returns-clause-counts c = counts_module

pub returns-clause-normal : goal.returns-clause-normal
returns-clause-normal c = outside_where_normal
