-- The answer of work that its engine has given up.
use Rattle.std.specs.Prelude.{◌≡◌, [], IsErr, Ok, Result}
use Rattle.ideal_laws.specs.declared.engine.EngineFault.{EngineFault}
use Rattle.ideal_laws.specs.declared.engine.EngineFault.TheVariants as engine
use Rattle.job_steps.specs.declared.answer.Answer.{Answer}
use Rattle.job_steps.specs.declared.status.Status.TheVariants.{Limit}

-- at a limit always its status and no text, since that takes no memory; for want of memory none
abbrev pub IsStopped : {E : Type 0} → EngineFault → Result Answer E → Type 0
IsStopped (engine.Limit kind d value) result = result ≡ Ok (record { status = Limit kind d value; text = [] })
IsStopped engine.NoMemory result = IsErr result
