use Rattle.std.proofs.Common.{ℕ, [], refl, inl, subst}
use Rattle.ideal_laws.specs.Ideal.{ideal_of}
use Rattle.ideal_laws.specs.Laws.{IsSetting}
use Rattle.job_steps.specs.States.{state_of, teller_state}
use Rattle.job_steps.proofs.Traced.{tells_none}
use Rattle.bergman_cli.proofs.RunTraces.{work_trace}
use Rattle.bergman_cli.proofs.run.run_job.Goals as goal

pub returns-in_default-clause-told : goal.returns-in_default-clause-told
returns-in_default-clause-told g c = ([], λ words is. inl refl, tells_none (teller_state g.T.Sink c.args.teller.now))

pub returns-clause-told : goal.returns-clause-told
returns-clause-told g c =
    let told = c.work.ensures.told in
    let given = c.in-Ok-read_given.given in
    let setting = subst (λ (p : ℕ). IsSetting (ideal_of p c.in-Ok-read_given.given)) c.in-Ok.ensures c.setting_law.ensures in (
      told.0,
      λ words is. work_trace words _ _ (state_of g.K.Sink c.args.out.now) (state_of g.K.Sink c.work.new.out)
          c.args.job.now is given.alphabet given.relations c.in-Ok-read_given.ensures.given
          c.len-letters.ensures.alphabet setting told.0 c.work.result told.1,
      told.2,
    )
