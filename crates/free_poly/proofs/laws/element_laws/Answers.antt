use Rattle.free_poly.proofs.Elements.{has_no_prefix_in_degree, keeps_degree_in_multiples, keeps_degree_in_sums, keeps_letters_in_multiples}
use Rattle.free_poly.proofs.Elements.{keeps_letters_in_sums, leads_with_greatest}
use Rattle.free_poly.proofs.NormalForms.{same_polynomials}
use Rattle.free_poly.proofs.Products.{HasDegree-product, UsesLetters-product, total_at-inside, total_at-outside}
use Rattle.free_poly.proofs.Totals.{total_at-append, total_at-scaled}
use Rattle.free_poly.proofs.laws.element_laws.Goals as goal

pub returns-clause-known : goal.returns-clause-known
returns-clause-known c = same_polynomials

pub returns-clause-sums : goal.returns-clause-sums
returns-clause-sums c = total_at-append

pub returns-clause-multiples : goal.returns-clause-multiples
returns-clause-multiples c = total_at-scaled

pub returns-clause-products : goal.returns-clause-products
returns-clause-products c = λ u f v. (total_at-inside u f v, total_at-outside u f v)

pub returns-clause-leads : goal.returns-clause-leads
returns-clause-leads c = leads_with_greatest

pub returns-clause-no_prefix : goal.returns-clause-no_prefix
returns-clause-no_prefix c = has_no_prefix_in_degree

pub returns-clause-degree_of_sums : goal.returns-clause-degree_of_sums
returns-clause-degree_of_sums c = keeps_degree_in_sums

pub returns-clause-letters_of_sums : goal.returns-clause-letters_of_sums
returns-clause-letters_of_sums c = keeps_letters_in_sums

pub returns-clause-degree_of_multiples : goal.returns-clause-degree_of_multiples
returns-clause-degree_of_multiples c = keeps_degree_in_multiples

pub returns-clause-letters_of_multiples : goal.returns-clause-letters_of_multiples
returns-clause-letters_of_multiples c = keeps_letters_in_multiples

pub returns-clause-degree_of_products : goal.returns-clause-degree_of_products
returns-clause-degree_of_products c = HasDegree-product

pub returns-clause-letters_of_products : goal.returns-clause-letters_of_products
returns-clause-letters_of_products c = UsesLetters-product
