use Rattle.std.proofs.Common.{◌≡◌, take}
use Rattle.back_reduce.specs.Listings.{entries_of}
use Rattle.back_reduce.proofs.row.entries_in.Given as goal

abbrev pub invariant-loop-column : goal.invariant-loop-column
invariant-loop-column l = l.entries.items ≡ entries_of (take l.column l.row)
