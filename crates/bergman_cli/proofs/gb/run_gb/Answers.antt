use Rattle.std.proofs.Common.{◌∙◌, ap, sym}
use Rattle.job_steps.specs.declared.print.Asked.{Asked}
use Rattle.job_steps.specs.States.{state_of, teller_state}
use Rattle.job_steps.specs.Traces.{Tells}
use Rattle.bergman_cli.proofs.RunTraces.{told_done, told_limit, told_memory, told_write}
use Rattle.bergman_cli.proofs.gb.run_gb.Goals as goal

pub print_job-requires-clause-printable : goal.print_job-requires-clause-printable
print_job-requires-clause-printable g c κs within = λ traces.
    c.requires.engine.printable (sym (ap (λ (a : Asked). a.trace) c.asked_of-asked.ensures) ∙ traces) c.args.field.now c.args.given.now

pub returns-in-Ok-clause-told : goal.returns-in-Ok-clause-told
returns-in-Ok-clause-told g c =
    told_done c.args.field.now c.args.given.now _ c.asked_of-asked.result c.args.job.now c.requires.modulus
    (g.E.DegreeEngine.may_account c.args.engine.now) c.requires.engine c.asked_of-asked.ensures c.setting_law.ensures
    (state_of g.K.Sink c.args.out.now) (state_of g.K.Sink c.print_job.new.out)
    (Tells (teller_state g.T.Sink c.args.teller.now) (teller_state g.T.Sink c.print_job.new.teller))
    c.in-Ok.ensures.told

pub returns-in-Err-Limit-clause-told : goal.returns-in-Err-Limit-clause-told
returns-in-Err-Limit-clause-told g c =
    told_limit c.args.field.now c.args.given.now _ c.asked_of-asked.result c.args.job.now c.requires.modulus
    (g.E.DegreeEngine.may_account c.args.engine.now) c.requires.engine c.asked_of-asked.ensures c.setting_law.ensures
    (state_of g.K.Sink c.args.out.now) (state_of g.K.Sink c.print_job.new.out)
    (Tells (teller_state g.T.Sink c.args.teller.now) (teller_state g.T.Sink c.print_job.new.teller))
    c.in-Err-Limit.kind c.in-Err-Limit.degree c.in-Err-Limit.value c.in-Err-Limit.field-0 c.in-Err-Limit.field-0-is c.in-Err-Limit.ensures.undone

pub returns-in-Err-WriteFault-clause-told : goal.returns-in-Err-WriteFault-clause-told
returns-in-Err-WriteFault-clause-told g c =
    told_write c.args.field.now c.args.given.now _ c.asked_of-asked.result c.args.job.now c.requires.modulus
    (g.E.DegreeEngine.may_account c.args.engine.now) c.requires.engine c.asked_of-asked.ensures c.setting_law.ensures
    (state_of g.K.Sink c.args.out.now) (state_of g.K.Sink c.print_job.new.out)
    (Tells (teller_state g.T.Sink c.args.teller.now) (teller_state g.T.Sink c.print_job.new.teller))
    c.in-Err-WriteFault.field-0 c.in-Err-WriteFault.field-0-is c.in-Err-WriteFault.ensures.undone

pub returns-in-Err-NoMemory-clause-told : goal.returns-in-Err-NoMemory-clause-told
returns-in-Err-NoMemory-clause-told g c =
    told_memory c.args.field.now c.args.given.now _ c.asked_of-asked.result c.args.job.now c.requires.modulus
    (g.E.DegreeEngine.may_account c.args.engine.now) c.requires.engine c.asked_of-asked.ensures c.setting_law.ensures
    (state_of g.K.Sink c.args.out.now) (state_of g.K.Sink c.print_job.new.out)
    (Tells (teller_state g.T.Sink c.args.teller.now) (teller_state g.T.Sink c.print_job.new.teller))
    c.in-Err-NoMemory.field-0 c.in-Err-NoMemory.field-0-is c.in-Err-NoMemory.ensures.undone
