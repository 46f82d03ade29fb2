use Rattle.words.specs.OrderLaws.{word_cmp-ties, word_cmp_total}
use Rattle.words.proofs.OrderFacts.{agrees_in_degree, compares_letters, greater_says, has_no_prefixes, kept_by_products, says_greater}
use Rattle.words.proofs.order.order_laws.Goals as goal

pub returns-clause-total : goal.returns-clause-total
returns-clause-total c = word_cmp_total

pub returns-clause-ties : goal.returns-clause-ties
returns-clause-ties c = word_cmp-ties

pub returns-clause-meaning : goal.returns-clause-meaning
returns-clause-meaning c = λ weights aw a b. (greater_says weights aw a b, says_greater weights a b)

pub returns-clause-prefixes : goal.returns-clause-prefixes
returns-clause-prefixes c = has_no_prefixes

pub returns-clause-products : goal.returns-clause-products
returns-clause-products c = kept_by_products

pub returns-clause-letters : goal.returns-clause-letters
returns-clause-letters c = compares_letters

pub returns-clause-agrees : goal.returns-clause-agrees
returns-clause-agrees c = agrees_in_degree
