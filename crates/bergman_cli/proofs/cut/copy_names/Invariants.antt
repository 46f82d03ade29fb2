use Rattle.std.proofs.Common.{◌≡◌, map, take}
use Rattle.bergman_cli.proofs.cut.copy_names.Given as goal

abbrev pub invariant-loop-letter : goal.invariant-loop-letter
invariant-loop-letter l = map (λ name. name.items) l.names.items ≡ take l.letter l.alphabet.names
