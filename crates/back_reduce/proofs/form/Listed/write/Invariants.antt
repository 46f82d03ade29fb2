use Rattle.std.proofs.Common.{◌≡◌, replicate, take}
use Rattle.back_reduce.specs.Entries.{with_entries}
use Rattle.back_reduce.proofs.form.Listed.write.Given as goal

abbrev pub invariant-loop-place : goal.invariant-loop-place
invariant-loop-place l = l.into ≡ with_entries (replicate l.self.width 0) (take l.place l.self.columns.items) (take l.place l.self.residues.items)
