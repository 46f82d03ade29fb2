use Rattle.std.proofs.Common.{◌≡◌, ◌≤◌, ◌-◌, length, take}
use Rattle.std.specs.Io.KnownBytes.{Appends}
use Rattle.bg_io.specs.Ends.{CountsAtMost, RoomFalls}
use Rattle.bg_io.proofs.transfer.write_all.Given as goal

abbrev pub invariant-loop-done : goal.invariant-loop-done
invariant-loop-done g l = record {
  within : l.done ≤ length l.bytes;
  gained : Appends (g.K.Sink.held l.initial.sink) (g.K.Sink.held l.sink) (take l.done l.bytes);
  room : RoomFalls (g.K.Sink.room l.initial.sink) (g.K.Sink.room l.sink) l.done;
  kept : g.K.Sink.faults l.sink ≡ g.K.Sink.faults l.initial.sink;
  calls : CountsAtMost (g.K.Sink.calls l.initial.sink) (g.K.Sink.calls l.sink) l.done;
}

abbrev pub decreases-loop-done : goal.decreases-loop-done
decreases-loop-done g l = length l.initial.bytes - l.done
