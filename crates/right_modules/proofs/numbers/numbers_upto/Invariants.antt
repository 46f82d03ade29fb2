use Rattle.right_modules.specs.Answered.{free_letters}
use Rattle.right_modules.specs.Extended.{AreHeld}
use Rattle.right_modules.proofs.Counted.{AreNumbersBelow}
use Rattle.right_modules.proofs.numbers.numbers_upto.Given as goal

abbrev pub invariant-loop-degree : goal.invariant-loop-degree
invariant-loop-degree l =
    AreNumbersBelow l.presentation.alphabet.weights (free_letters l.presentation l.gens) l.index l.most l.degree l.numbers.items
    × AreHeld l.presentation.alphabet.weights (free_letters l.presentation l.gens) l.index l.degree l.held.items
