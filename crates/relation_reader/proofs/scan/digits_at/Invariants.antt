use Rattle.std.proofs.Common.{◌≡◌, true}
use Rattle.relation_reader.specs.Tokens.{is_number, span, with_digits}
use Rattle.relation_reader.specs.Scan.{IsNarrowed}
use Rattle.relation_reader.proofs.scan.digits_at.Given as goal

abbrev pub invariant-loop-at : goal.invariant-loop-at
invariant-loop-at l = record { spelled : is_number (span l.text l.start l.at) ≡ true; value : IsNarrowed l.value (with_digits 0 (span l.text l.start l.at)) }
