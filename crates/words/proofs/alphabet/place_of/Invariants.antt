use Rattle.std.proofs.Common.{◌≢◌, All, map, take}
use Rattle.words.proofs.alphabet.place_of.Given as goal

abbrev pub invariant-loop-at : goal.invariant-loop-at
invariant-loop-at l = All (λ other. other ≢ l.name) (map (λ name. name.items) (take l.at l.names))
