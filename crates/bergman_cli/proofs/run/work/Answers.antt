use Rattle.std.proofs.Common.{◌≢◌, rules, subst}
use Rattle.command_words.specs.declared.job.Command.TheVariants.{Gb, Normal}
use Rattle.job_steps.specs.States.{state_of, teller_state}
use Rattle.job_steps.specs.Status.{PrintsNothing}
use Rattle.job_steps.proofs.Statuses.{answered_status}
use Rattle.bergman_cli.proofs.RunTraces.{untold}
use Rattle.bergman_cli.proofs.Works.{answer_ends, due_own, outcome_due, quiet}
use Rattle.bergman_cli.proofs.run.work.Goals as goal

pub write_answer-requires : goal.write_answer-requires
write_answer-requires g c =
    let job = c.args.job.now in
    let given = c.args.given.now in
    let answer = c.in-Ok.answer in
    due_own job given.alphabet given.relations job.command answer.status
    (outcome_due job given.alphabet given.relations job.command answer.status answer.text c.in-Ok.ensures)

pub returns-in-Ok-clause-end : goal.returns-in-Ok-clause-end
returns-in-Ok-clause-end g c =
    let job = c.args.job.now in
    let degrees : job.command ≢ Gb = search rules in
    let questions : job.command ≢ Normal = search rules in
    let answer = c.in-Ok.answer in
    answer_ends job c.args.given.now.alphabet c.args.given.now.relations (state_of g.K.Sink c.args.out.now)
    (state_of g.K.Sink c.write_answer.new.out) job.command degrees questions answer.status answer.text
    c.in-Ok.ensures c.write_answer.result c.write_answer.ensures.end

pub returns-in-Ok-clause-nothing : goal.returns-in-Ok-clause-nothing
returns-in-Ok-clause-nothing g c = λ none.
    let job = c.args.job.now in
    let answer = c.in-Ok.answer in
    let same = answered_status answer.status answer.text (state_of g.K.Sink c.args.out.now) (state_of g.K.Sink c.write_answer.new.out)
    c.write_answer.result c.write_answer.ensures.end none in
    c.write_answer.ensures.nothing (quiet job c.args.given.now.alphabet c.args.given.now.relations job.command answer.status answer.text
    c.in-Ok.ensures (subst PrintsNothing same none))

pub returns-then-eq-2-clause-told : goal.returns-then-eq-2-clause-told
returns-then-eq-2-clause-told g c =
    let other : c.args.job.now.command ≢ Gb = search rules in
    untold c.args.job.now c.args.given.now.alphabet c.args.given.now.relations (state_of g.K.Sink c.args.out.now)
    (state_of g.K.Sink c.run_normal.new.out) c.run_normal.result other (teller_state g.T.Sink c.args.teller.now)

pub returns-in-Ok-clause-told : goal.returns-in-Ok-clause-told
returns-in-Ok-clause-told g c =
    let other : c.args.job.now.command ≢ Gb = search rules in
    untold c.args.job.now c.args.given.now.alphabet c.args.given.now.relations (state_of g.K.Sink c.args.out.now)
    (state_of g.K.Sink c.write_answer.new.out) c.write_answer.result other (teller_state g.T.Sink c.args.teller.now)

pub returns-in-Err-clause-told : goal.returns-in-Err-clause-told
returns-in-Err-clause-told g c =
    let other : c.args.job.now.command ≢ Gb = search rules in
    untold c.args.job.now c.args.given.now.alphabet c.args.given.now.relations (state_of g.K.Sink c.args.out.now)
    (state_of g.K.Sink c.args.out.now) _ other (teller_state g.T.Sink c.args.teller.now)
