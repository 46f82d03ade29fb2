use Rattle.ideal_laws.proofs.NormalLeads.{normal_from, normal_no_lead}
use Rattle.cofactors.proofs.NormalForms.{has_normal_form, tells_members}
use Rattle.cofactors.proofs.ProductLists.{has_product_list}
use Rattle.cofactors.proofs.laws.normal_form_laws.Goals as goal

pub returns-clause-one : goal.returns-clause-one
returns-clause-one c = has_normal_form

pub returns-clause-members : goal.returns-clause-members
returns-clause-members c = tells_members

pub returns-clause-normal : goal.returns-clause-normal
returns-clause-normal c = λ ideal st e G lower d w below m. (normal_from ideal st e G lower d w m, normal_no_lead ideal st e G lower d w below m)

pub returns-clause-products : goal.returns-clause-products
returns-clause-products c = has_product_list
