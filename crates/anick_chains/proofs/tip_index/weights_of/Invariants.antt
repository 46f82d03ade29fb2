use Rattle.std.proofs.Common.{◌≡◌, take}
use Rattle.anick_chains.proofs.tip_index.weights_of.Given as goal

abbrev pub invariant-loop-letter : goal.invariant-loop-letter
invariant-loop-letter l = l.weights.items ≡ take l.letter l.basis.weights
