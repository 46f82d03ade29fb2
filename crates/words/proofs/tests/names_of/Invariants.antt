use Rattle.std.proofs.Common.{◌≡◌, length}
use Rattle.words.proofs.tests.names_of.Given as goal

abbrev pub invariant-loop-byte : goal.invariant-loop-byte
invariant-loop-byte l = length l.names.items ≡ l.byte-index
