use Rattle.std.proofs.Common.{◌≡◌}
use Rattle.anick_chains.specs.Walk.{free_letter}
use Rattle.anick_chains.proofs.Members.{joined}
use Rattle.anick_chains.proofs.longer.free_letters.Given as goal

abbrev pub invariant-loop-letter : goal.invariant-loop-letter
invariant-loop-letter l = l.found.items ≡ joined (free_letter l.tips.basis.now.weights l.tips.basis.now.elements l.degree) l.letter
