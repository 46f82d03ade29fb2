-- What the account of a degree tells, engine by engine.
use Rattle.std.specs.Prelude.{ℕ, ◌≡◌, List, [], max, min}
use Rattle.free_poly.specs.declared.term.Term.{Term}
use Rattle.ideal_laws.specs.Ideal.{Ideal}
use Rattle.ideal_laws.specs.declared.account.Account.{Account}
use Rattle.ideal_laws.specs.declared.account.Call.{Call}
use Rattle.ideal_laws.specs.Quantities.{contested_words}
use Rattle.symbolic_prep.specs.Closed.{ClosedColumns}
use Rattle.back_reduce.specs.declared.problem.Problem.{Problem}
use Rattle.pivot_core.specs.declared.event.Event.{Event}
use Rattle.pivot_core.specs.History.{merged}
use Rattle.pivot_core.specs.Laws.{logs_of}
use Rattle.pivot_core.specs.Runs.{HasEnded, opening, state_after}
use Rattle.degree_loop.specs.Matrix.{IsMatrix}
use Rattle.degree_loop.specs.Schedule.{IsScheduled}

-- the matrix of the degree, and calls that may be told of it
pub record IsAccountOf (Tells : Problem → List Call → Type 0) (ideal : Ideal)
    (G : List (List Term)) (d : ℕ) (account : Account) : Type 0 where
  pub closed : ClosedColumns
  pub problem : Problem
  pub matrix : IsMatrix ideal G d closed problem
  pub count : account.rows ≡ problem.n
  pub contested : account.columns ≡ contested_words closed.columns closed.reducers
  pub calls : Tells problem account.calls

-- no calls, as elimination on one thread makes none
abbrev pub AreNoCalls : Problem → List Call → Type 0
AreNoCalls problem calls = calls ≡ []

-- the crew of a degree of n rows: the lesser of the workers and n, but at least 1
abbrev pub crew_of : ℕ → ℕ → ℕ
crew_of workers n = max 1 (min workers n)

-- all calls of an ended run of the machine of claims on a problem, by rising stamp and then by rising seat
pub record AreRunCalls (workers : ℕ) (problem : Problem) (calls : List Call) : Type 0 where
  pub events : List Event
  pub ended : HasEnded problem (state_after problem (crew_of workers problem.n) events)
  pub merge : calls ≡ merged (logs_of (state_after problem (crew_of workers problem.n) events))

-- those of a run whose events the generator has chosen that begins with the schedule
pub record AreScheduledCalls (workers schedule : ℕ) (problem : Problem) (calls : List Call) : Type 0 where
  pub run : AreRunCalls workers problem calls
  pub scheduled : IsScheduled problem (opening problem (crew_of workers problem.n)) schedule run.events

-- the accounts of the sequential engine, of the race, and of the machine of claims on one thread
abbrev pub IsSeqAccount : Ideal → List (List Term) → ℕ → Account → Type 0
IsSeqAccount = IsAccountOf AreNoCalls

abbrev pub IsRunAccount : ℕ → Ideal → List (List Term) → ℕ → Account → Type 0
IsRunAccount workers = IsAccountOf (AreRunCalls workers)

abbrev pub IsCoreAccount : ℕ → ℕ → Ideal → List (List Term) → ℕ → Account → Type 0
IsCoreAccount workers schedule = IsAccountOf (AreScheduledCalls workers schedule)
