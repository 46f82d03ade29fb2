use Rattle.words.proofs.Degrees.{lists_words, words_of_degree-order, words_of_degree-unfolds}
use Rattle.words.proofs.order.degree_laws.Goals as goal

pub returns-clause-words : goal.returns-clause-words
returns-clause-words c = lists_words

pub returns-clause-order : goal.returns-clause-order
returns-clause-order c = words_of_degree-order

pub returns-clause-letters : goal.returns-clause-letters
returns-clause-letters c = words_of_degree-unfolds
