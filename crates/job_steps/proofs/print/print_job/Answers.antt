use Rattle.std.proofs.Common.{ℕ, subst}
use Rattle.std.proofs.lemmas.Result.{err_from_is_err_and}
use Rattle.ideal_laws.specs.Limits.{standard_limits}
use Rattle.relation_reader.proofs.Bools.{not_false}
use Rattle.job_steps.specs.Gains.{IsUndone}
use Rattle.job_steps.specs.Printing.{IsSeriesUndone, IsWholeSeries, task_of}
use Rattle.job_steps.specs.States.{state_of, teller_state}
use Rattle.job_steps.specs.Traces.{OfTrace, Tells}
use Rattle.job_steps.proofs.Ended.{done_with_series, undone_series}
use Rattle.job_steps.proofs.DegreeLines.{if_err}
use Rattle.job_steps.proofs.Reaches.{undone_basis}
use Rattle.job_steps.proofs.Writes.{counts_more}
use Rattle.job_steps.proofs.print.print_job.Goals as goal

pub returns-in_err-basis-clause-undone : goal.returns-in_err-basis-clause-undone
returns-in_err-basis-clause-undone g c =
    let task = task_of c.args.field.now c.args.given.now (g.E.DegreeEngine.kinds c.args.engine.now) c.args.asked in
    let e = err_from_is_err_and c.from_residual.result c.from_residual.ensures.1 in
    let Told = Tells (teller_state g.T.Sink c.args.teller.now) (teller_state g.T.Sink c.print_basis.new.teller) in
    let Holds : ℕ → Type 0 = λ e. OfTrace (g.E.DegreeEngine.may_account c.args.engine.now) task c.args.asked.trace e Told in
    if_err c.from_residual.result e.0 _ (IsUndone task (state_of g.K.Sink c.args.out.now) (state_of g.K.Sink c.print_basis.new.out) Holds) e.1 e.2
    (undone_basis task c.setting_law.ensures (state_of g.K.Sink c.args.out.now) (state_of g.K.Sink c.print_basis.new.out) Holds _ c.in_err-basis.ensures.undone)

pub returns-in-Ok-clause-done : goal.returns-in-Ok-clause-done
returns-in-Ok-clause-done g c =
    let task = task_of c.args.field.now c.args.given.now (g.E.DegreeEngine.kinds c.args.engine.now) c.args.asked in
    let basis = c.in_ok-basis.ensures.printed in
    let series = c.in-Ok.ensures.printed in
    let whole = subst (λ (d : ℕ). IsWholeSeries c.args.field.now c.args.given.now.alphabet c.args.given.now.relations
    standard_limits.normal_words d series.0) c.in_ok-basis.ensures.done series.1 in
    done_with_series task basis.0 basis.1 (not_false c.args.asked.series c.if-not-asked.false) _ _ _ series.0 basis.2 whole series.2

pub returns-clause-undone : goal.returns-clause-undone
returns-clause-undone g c =
    let task = task_of c.args.field.now c.args.given.now (g.E.DegreeEngine.kinds c.args.engine.now) c.args.asked in
    let May = g.E.DegreeEngine.may_account c.args.engine.now in
    let Told = Tells (teller_state g.T.Sink c.args.teller.now) (teller_state g.T.Sink c.print_basis.new.teller) in
    let Holds : ℕ → Type 0 = λ e. OfTrace May task c.args.asked.trace e Told in
    let told = c.in_ok-basis.ensures.told in
    let basis = c.in_ok-basis.ensures.printed in
    let undone = subst (λ (d : ℕ). IsSeriesUndone c.args.field.now c.args.given.now.alphabet c.args.given.now.relations
    standard_limits.normal_words d (state_of g.K.Sink c.print_basis.new.out) (state_of g.K.Sink c.print_series.new.out) c.in-Err.fault)
    c.in_ok-basis.ensures.done c.in-Err.ensures.undone in
    undone_series task basis.0 basis.1 (not_false c.args.asked.series c.if-not-asked.false) c.setting_law.ensures _ (state_of g.K.Sink c.print_basis.new.out)
    (state_of g.K.Sink c.print_series.new.out) Holds
    c.in-Err.fault told basis.2 undone

pub returns-in-Ok-clause-calls : goal.returns-in-Ok-clause-calls
returns-in-Ok-clause-calls g c = counts_more _ _ _ _ _ _ 0 c.in_ok-basis.ensures.calls c.in-Ok.ensures.calls

pub returns-clause-calls : goal.returns-clause-calls
returns-clause-calls g c = counts_more _ _ _ _ _ _ 1 c.in_ok-basis.ensures.calls c.in-Err.ensures.calls
