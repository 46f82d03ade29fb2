-- The rule of claimed pivots: its clause on calls and counts.
use Rattle.std.specs.Prelude.{ℕ, ◌≡◌, ◌≢◌, ◌+◌, ◌-◌, ◌*◌, ◌<◌, ◌≤◌, ◌==◌, cond, List, All, AllPairs, length}
use Rattle.std.specs.List.{sum_by}
use Rattle.ideal_laws.specs.declared.account.Answer.{Answer}
use Rattle.ideal_laws.specs.declared.account.Answer.TheVariants as answer
use Rattle.ideal_laws.specs.declared.account.Call.{Call}
use Rattle.back_reduce.specs.declared.problem.Problem.{Problem}
use Rattle.pivot_core.specs.declared.view.Phase.{Phase}
use Rattle.pivot_core.specs.declared.view.Phase.TheVariants as phase
use Rattle.pivot_core.specs.Words.{stamp_in}
use Rattle.pivot_core.specs.Runs.{State, IsHeld, claim_at, holder_of, view_at}
use Rattle.pivot_core.specs.Phases.{column_of}

-- a call tells what its column holds: the call itself where it won, and else its answer, whose stamp is below the
-- call's
abbrev pub IsAnswered : Problem → State → Call → Answer → Type 0
IsAnswered problem s k answer.Won = IsHeld problem s k.column × (holder_of problem s k.column ≡ k.row)
    × (stamp_in (claim_at problem s k.column) ≡ k.stamp)
IsAnswered problem s k (answer.Lost row stamp) = IsHeld problem s k.column × (holder_of problem s k.column ≡ row)
    × (stamp_in (claim_at problem s k.column) ≡ stamp) × (stamp < k.stamp)

-- a call of a seat with this clock, in range
pub record IsCall (problem : Problem) (s : State) (seat clock : ℕ) (k : Call) : Type 0 where
  pub own : k.seat ≡ seat
  pub column : k.column < problem.m
  pub row : k.row < problem.n
  pub stamp : k.stamp ≤ clock
  pub answered : IsAnswered problem s k k.answer

-- in Putting and Claiming the view has made no call on its column
abbrev pub IsUnclaimed : Phase → List Call → Type 0
IsUnclaimed (phase.Putting row column at) calls = All (λ k. k.column ≢ column) calls
IsUnclaimed (phase.Claiming row column) calls = All (λ k. k.column ≢ column) calls
IsUnclaimed f calls = Unit {0}

-- the number of calls in all views
abbrev pub call_count : State → ℕ
call_count s = sum_by (λ v. length v.calls) s.views

-- 1 for a call that won this column
abbrev pub is_won_at : ℕ → Call → ℕ
is_won_at c k = elim k.answer as (λ a. ℕ) [ answer.Won ↦ cond (k.column == c) 1 0 | answer.Lost row stamp ↦ 0 ]

-- how often a column is won in all views
abbrev pub won_count : State → ℕ → ℕ
won_count s c = sum_by (λ v. sum_by (is_won_at c) v.calls) s.views

-- the most steps of one row, its draw included
abbrev pub steps_of_row : ℕ → ℕ
steps_of_row m = m * m + 3 * m + 1

-- the most steps that a phase has made at its column
abbrev pub steps_in : ℕ → Phase → ℕ
steps_in m phase.Fresh = 0
steps_in m (phase.Looking row column) = 0
steps_in m (phase.Putting row column at) = 1 + at - column
steps_in m (phase.Claiming row column) = 1 + m - column
steps_in m (phase.Reading row column holder at) = 2 + (m - column) + (at - column)
steps_in m phase.Ended = 0

-- a view has made at most so many steps for what it has drawn, and with a current row it has drawn
abbrev pub IsBounded : ℕ → Phase → ℕ → ℕ → Type 0
IsBounded m phase.Fresh drawn steps = steps ≤ drawn * steps_of_row m
IsBounded m phase.Ended drawn steps = steps ≤ drawn * steps_of_row m + 1
IsBounded m f drawn steps = (1 ≤ drawn) × (steps ≤ (drawn - 1) * steps_of_row m + 1 + column_of f *
    (2 * m + 3 - column_of f) + steps_in m f)

-- Calls and counts. Each call tells what its column holds, stamps rise, each held column is won once, and steps are
-- bounded
pub record CallsAndCounts (problem : Problem) (crew : ℕ) (s : State) : Type 0 where
  pub each : (i : ℕ) → i < crew → All (IsCall problem s i (view_at problem s i).clock) (view_at problem s i).calls
  pub columns : (i : ℕ) → i < crew → AllPairs (λ k l. k.column ≢ l.column) (view_at problem s i).calls
  pub rising : (i : ℕ) → i < crew → AllPairs (λ k l. k.stamp < l.stamp) (view_at problem s i).calls
  pub won : (c : ℕ) → IsHeld problem s c → won_count s c ≡ 1
  pub clocks : (i : ℕ) → i < crew → (view_at problem s i).clock ≤ call_count s
  pub stamps : (c : ℕ) → c < problem.m → stamp_in (claim_at problem s c) ≤ call_count s
  pub unclaimed : (i : ℕ) → i < crew → IsUnclaimed (view_at problem s i).phase (view_at problem s i).calls
  pub steps : (i : ℕ) → i < crew → IsBounded problem.m (view_at problem s i).phase (view_at problem s i).drawn
      (view_at problem s i).steps
