use Rattle.std.proofs.Common.{◌≡◌, ◌≤◌, length}
use Rattle.degree_loop.proofs.Going.{going_below}
use Rattle.degree_loop.proofs.schedule.seat_at.Given as goal

abbrev pub invariant-loop-seat : goal.invariant-loop-seat
invariant-loop-seat l = record {
  count : l.before ≡ length (going_below l.core.problem l.core.state l.seat);
  upto : l.before ≤ l.place;
}
