use Rattle.degree_words.specs.Lists.{AreCounts}
use Rattle.degree_words.proofs.counts.counts_of.Given as goal

abbrev pub invariant-loop-k : goal.invariant-loop-k
invariant-loop-k l = AreCounts l.alphabet.weights l.counts l.k
