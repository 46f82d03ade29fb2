use Rattle.std.proofs.Common.{◌≡◌, length, take}
use Rattle.words.specs.Words.{AreWeights}
use Rattle.ideal_laws.proofs.basis.weights_of.Given as goal

abbrev pub invariant-loop-letter : goal.invariant-loop-letter
invariant-loop-letter l = (length l.weights ≡ 64) × (take l.letter l.weights ≡ take l.letter l.alphabet.weights) × AreWeights (take l.letter l.alphabet.weights)
