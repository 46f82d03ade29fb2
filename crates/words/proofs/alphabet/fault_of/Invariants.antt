use Rattle.std.proofs.Common.{map, take}
use Rattle.words.specs.Names.{AreApart}
use Rattle.words.proofs.alphabet.fault_of.Given as goal

abbrev pub invariant-loop-second : goal.invariant-loop-second
invariant-loop-second l = AreApart (map (λ name. name.items) (take l.second l.names))
