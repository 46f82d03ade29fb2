-- The calls of a scheduled run, and an account with them.
use Rattle.std.proofs.Common.{◌≡◌, ℕ, List, [], ◌∷◌, ap, ◌∙◌, subst}
use Rattle.free_poly.specs.declared.term.Term.{Term}
use Rattle.ideal_laws.specs.Ideal.{Ideal}
use Rattle.ideal_laws.specs.declared.account.Account.{Account}
use Rattle.ideal_laws.specs.declared.account.Call.{Call}
use Rattle.back_reduce.specs.declared.problem.Problem.{Problem}
use Rattle.pivot_core.specs.declared.event.Event.{Event}
use Rattle.pivot_core.specs.Finished.{Finished}
use Rattle.pivot_core.specs.History.{merged}
use Rattle.pivot_core.specs.Runs.{HasEnded, State, after_event, after_events, opening}
use Rattle.field_table.specs.Draws.{next_number}
use Rattle.degree_loop.specs.Accounts.{AreScheduledCalls, IsCoreAccount, IsRunAccount, crew_of}
use Rattle.degree_loop.specs.Schedule.{IsScheduled, IsScheduledRun}

-- the rest of a schedule leads to an ended state
scheduled_ends : (problem : Problem) (s : State) (number : ℕ) (events : List Event) → IsScheduled problem s number events
    → HasEnded problem (after_events problem s events)
scheduled_ends problem s number [] h = h
scheduled_ends problem s number (e ∷ es) h = scheduled_ends problem (after_event problem s e) (next_number number) es h.1

-- the calls of a scheduled run are those of an ended one
pub run_of_core : (workers schedule : ℕ) (ideal : Ideal) (G : List (List Term)) (d : ℕ) (account : Account) →
    IsCoreAccount workers schedule ideal G d account → IsRunAccount workers ideal G d account
run_of_core workers schedule ideal G d account a = record {
  closed = a.closed;
  problem = a.problem;
  matrix = a.matrix;
  count = a.count;
  contested = a.contested;
  calls = a.calls.run;
}

-- the merged calls of a scheduled run
pub scheduled_calls : (problem : Problem) (workers schedule crew : ℕ) → crew ≡ crew_of workers problem.n → (f : Finished)
    → IsScheduledRun problem crew schedule f → (calls : List Call) → calls ≡ merged f.logs → AreScheduledCalls workers schedule problem calls
scheduled_calls problem workers schedule crew crew_is f found calls is =
    let run : IsScheduledRun problem (crew_of workers problem.n) schedule f = subst (λ (k : ℕ). IsScheduledRun problem k schedule f) crew_is found in
    record {
      run = record {
        events = run.events;
        ended = scheduled_ends problem (opening problem (crew_of workers problem.n)) schedule run.events run.scheduled;
        merge = is ∙ ap merged run.logs;
      };
      scheduled = run.scheduled;
    }
