use Rattle.std.proofs.Common.{◌≡◌, min, take}
use Rattle.words.specs.Words.{degree_of}
use Rattle.degree_words.proofs.within.degree_within.Given as goal

abbrev pub invariant-loop-letter : goal.invariant-loop-letter
invariant-loop-letter l = l.degree ≡ min (degree_of l.alphabet.weights (take l.letter-index l.word)) l.most
