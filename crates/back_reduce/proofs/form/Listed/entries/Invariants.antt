use Rattle.std.proofs.Common.{◌≡◌, replicate, take}
use Rattle.back_reduce.specs.Entries.{with_entries}
use Rattle.back_reduce.specs.Listings.{entries_of}
use Rattle.back_reduce.proofs.form.Listed.entries.Given as goal

abbrev pub invariant-loop-place : goal.invariant-loop-place
invariant-loop-place l =
    l.entries.items ≡ entries_of (with_entries (replicate l.self.width 0) (take l.place l.self.columns.items) (take l.place l.self.residues.items))
