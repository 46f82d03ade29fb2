use Rattle.std.proofs.Common.{map}
use Rattle.relation_reader.proofs.Walking.{Walks}
use Rattle.relation_reader.proofs.placed.first_placed.Given as goal

abbrev pub invariant-loop-at : goal.invariant-loop-at
invariant-loop-at l = Walks l.text l.tokens l.stop l.at l.walk.place (map (λ name. name.items) l.walk.names.items) l.walk.begun l.walk.letters
