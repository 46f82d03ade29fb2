use Rattle.std.proofs.Common.{take}
use Rattle.symbolic_prep.specs.Numbers.{AreListed}
use Rattle.symbolic_prep.proofs.by_word.push_numbers.Given as goal

abbrev pub invariant-loop-term : goal.invariant-loop-term
invariant-loop-term l = AreListed l.columns l.fn.numbers.items l.numbers.items (take l.term-index l.terms)
