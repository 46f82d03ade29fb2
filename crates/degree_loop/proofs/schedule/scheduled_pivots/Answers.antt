use Rattle.std.proofs.Common.{rules}
use Rattle.degree_loop.proofs.Going.{none_going}
use Rattle.degree_loop.proofs.ScheduledRuns.{ended_schedule, fewer_left, next_so_far}
use Rattle.degree_loop.proofs.schedule.scheduled_pivots.Goals as goal

pub chosen-event-requires-clause-some : goal.chosen-event-requires-clause-some
chosen-event-requires-clause-some c = λ none.
    let ended = c.ended.ensures.1 (none_going c.loop-number.core.problem c.loop-number.core.state none) in
    let not = c.loop-number-test.true in
    search rules

pub loop-number-smaller : goal.loop-number-smaller
loop-number-smaller c =
    let laws = c.claim_laws.ensures in
    fewer_left laws.claimed_pivots laws.step_counts c.args.problem c.args.crew c.args.schedule c.loop-number.core
    c.loop-number.number c.loop-number.invariant
    c.number_after-number.result c.number_after-number.ensures c.chosen-event.result c.chosen-event.ensures.below
    c.chosen-event.ensures.chosen c.step-reply.new.self c.step-reply.ensures.state

pub loop-number-preserved : goal.loop-number-preserved
loop-number-preserved c =
    let laws = c.claim_laws.ensures in
    next_so_far laws.claimed_pivots laws.step_counts c.args.problem c.args.crew c.args.schedule c.loop-number.core
    c.loop-number.number c.loop-number.invariant
    c.number_after-number.result c.number_after-number.ensures c.chosen-event.result c.chosen-event.ensures.below
    c.chosen-event.ensures.chosen c.step-reply.new.self c.step-reply.ensures.state
    c.step-reply.ensures.problem c.step-reply.ensures.crew

pub returns : goal.returns
returns c =
    let laws = c.claim_laws.ensures in
    let ended = c.ended.ensures.0 (search rules) in
    ended_schedule laws.claimed_pivots laws.step_counts c.args.problem c.args.crew c.args.schedule c.loop-number.core
    c.loop-number.number c.loop-number.invariant
    ended c.finish.result c.finish.ensures.problem c.finish.ensures.logs
