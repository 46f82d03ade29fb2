use Rattle.std.proofs.Common.{◌≡◌, map, drop}
use Rattle.relation_reader.specs.Meaning.{is_among}
use Rattle.relation_reader.proofs.walk.is_among.Given as goal

abbrev pub invariant-loop-name : goal.invariant-loop-name
invariant-loop-name l = is_among l.bytes (map (λ name. name.items) l.names) ≡ is_among l.bytes (map (λ name. name.items) (drop l.name-index l.names))
