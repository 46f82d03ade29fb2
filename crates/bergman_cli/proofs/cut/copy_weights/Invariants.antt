use Rattle.std.proofs.Common.{◌≡◌, take}
use Rattle.bergman_cli.proofs.cut.copy_weights.Given as goal

abbrev pub invariant-loop-letter : goal.invariant-loop-letter
invariant-loop-letter l = l.weights.items ≡ take l.letter l.alphabet.weights
