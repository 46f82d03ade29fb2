-- What is said of an answer at the limit that its engine passed.
use Rattle.std.proofs.Common.{◌≡◌, ℕ, [], Result, IfOk, refl, sym, subst}
use Rattle.std.proofs.lemmas.Result.{IfOk-from_err}
use Rattle.ideal_laws.specs.declared.engine.EngineFault.{EngineFault}
use Rattle.ideal_laws.specs.declared.engine.EngineFault.TheVariants as engine
use Rattle.ideal_laws.specs.declared.limits.LimitKind.{LimitKind}
use Rattle.job_steps.specs.Answers.{IsStopped}
use Rattle.job_steps.specs.declared.answer.Answer.{Answer}
use Rattle.job_steps.specs.declared.status.Status.TheVariants.{Limit}

-- what holds of the status of a limit with no text holds of the answer of stopped work, if there is one
pub stopped_is : {E : Type 0} (P : Answer → Type 0) (fault : EngineFault) (result : Result Answer E) → IsStopped fault result →
    ((kind : LimitKind) (d value : ℕ) → fault ≡ engine.Limit kind d value → P (record { status = Limit kind d value; text = [] })) → IfOk result P
stopped_is {E} P (engine.Limit kind d value) result is at = subst (λ (r : Result Answer E). IfOk r P) (sym is) (at kind d value refl)
stopped_is P engine.NoMemory result is at = IfOk-from_err result P is
