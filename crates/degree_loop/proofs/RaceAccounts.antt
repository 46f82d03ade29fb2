-- The calls of a race.
use Rattle.std.proofs.Common.{◌≡◌, ℕ, List, ap, ◌∙◌, subst}
use Rattle.ideal_laws.specs.declared.account.Call.{Call}
use Rattle.back_reduce.specs.declared.problem.Problem.{Problem}
use Rattle.pivot_core.specs.History.{merged}
use Rattle.pivot_table.specs.Finished.{Finished, IsEndOf}
use Rattle.degree_loop.specs.Accounts.{AreRunCalls, crew_of}

-- the merged calls of a race are those of an ended run
pub raced_calls : (problem : Problem) (workers crew : ℕ) → crew ≡ crew_of workers problem.n → (f : Finished) → IsEndOf problem crew f
    → (calls : List Call) → calls ≡ merged f.logs → AreRunCalls workers problem calls
raced_calls problem workers crew crew_is f found calls is =
    let run : IsEndOf problem (crew_of workers problem.n) f = subst (λ (k : ℕ). IsEndOf problem k f) crew_is found in
    record { events = run.events; ended = run.ended; merge = is ∙ ap merged run.logs_are }
