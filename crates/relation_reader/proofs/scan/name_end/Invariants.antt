use Rattle.std.proofs.Common.{◌≡◌, true}
use Rattle.relation_reader.specs.Tokens.{is_name, span}
use Rattle.relation_reader.proofs.scan.name_end.Given as goal

abbrev pub invariant-loop-at : goal.invariant-loop-at
invariant-loop-at l = is_name (span l.text l.start l.at) ≡ true
