use Rattle.std.proofs.Common.{◌≡◌, ◌≤◌, ◌-◌, ◌+◌, length}
use Rattle.std.specs.Io.KnownBytes.{Consumes}
use Rattle.bg_io.specs.Ends.{CountsAtMost}
use Rattle.bg_io.proofs.transfer.read_all.Given as goal

abbrev pub invariant-loop-buffer : goal.invariant-loop-buffer
invariant-loop-buffer g l = record {
  within : length l.text.items ≤ l.limit;
  taken : Consumes (g.S.Source.left l.initial.source) (g.S.Source.left l.source) l.text.items;
  kept : g.S.Source.faults l.source ≡ g.S.Source.faults l.initial.source;
  calls : CountsAtMost (g.S.Source.calls l.initial.source) (g.S.Source.calls l.source) (length l.text.items);
}

abbrev pub decreases-loop-buffer : goal.decreases-loop-buffer
decreases-loop-buffer g l = l.limit + 1 - length l.text.items
