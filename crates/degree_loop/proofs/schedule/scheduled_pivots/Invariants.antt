use Rattle.std.proofs.Common.{◌-◌}
use Rattle.degree_loop.proofs.ScheduledRuns.{IsSoFar, most_steps, steps_made}
use Rattle.degree_loop.proofs.schedule.scheduled_pivots.Given as goal

abbrev pub invariant-loop-number : goal.invariant-loop-number
invariant-loop-number l = IsSoFar l.fn.problem l.crew l.schedule l.core l.number

abbrev pub decreases-loop-number : goal.decreases-loop-number
decreases-loop-number l = most_steps l.fn.problem l.crew - steps_made l.core.state
