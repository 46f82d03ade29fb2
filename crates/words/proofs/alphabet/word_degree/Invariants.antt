use Rattle.std.proofs.Common.{◌≡◌, ◌≤◌, ◌*◌, take}
use Rattle.words.specs.Words.{degree_of}
use Rattle.words.proofs.alphabet.word_degree.Given as goal

abbrev pub invariant-loop-letter : goal.invariant-loop-letter
invariant-loop-letter l = (l.total ≡ degree_of l.weights (take l.letter-index l.word)) × (l.total ≤ 255 * l.letter-index)
