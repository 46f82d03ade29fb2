use Rattle.std.proofs.Common.{◌≡◌}
use Rattle.relation_reader.specs.Tokens.{after_bytes, between, span}
use Rattle.relation_reader.specs.Scan.{gap_of}
use Rattle.relation_reader.proofs.scan.gap_end.Given as goal

abbrev pub invariant-loop-at : goal.invariant-loop-at
invariant-loop-at l = after_bytes between (span l.text l.from l.at) ≡ gap_of l.in_comment
