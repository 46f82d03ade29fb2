use Rattle.std.proofs.Common.{◌-◌, ◌≤◌, length}
use Rattle.relation_reader.proofs.Spans.{Completes}
use Rattle.relation_reader.proofs.scan.split_of.Given as goal

abbrev pub invariant-tokens : goal.invariant-tokens
invariant-tokens l = record { within : l.at ≤ length l.text; completes : Completes l.text l.tokens.items l.at }

abbrev pub decreases-tokens : goal.decreases-tokens
decreases-tokens l = length l.text - l.at
