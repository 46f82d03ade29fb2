use Rattle.degree_words.specs.Lists.{AreLists}
use Rattle.degree_words.proofs.lists.lists_of.Given as goal

abbrev pub invariant-loop-k : goal.invariant-loop-k
invariant-loop-k l = AreLists l.alphabet.weights l.d l.lists.items l.k
