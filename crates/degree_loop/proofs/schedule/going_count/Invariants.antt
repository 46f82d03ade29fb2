use Rattle.std.proofs.Common.{◌≡◌, length}
use Rattle.degree_loop.proofs.Going.{going_below}
use Rattle.degree_loop.proofs.schedule.going_count.Given as goal

abbrev pub invariant-loop-seat : goal.invariant-loop-seat
invariant-loop-seat l = l.count ≡ length (going_below l.core.problem l.core.state l.seat)
