-- The laws of the machine of claims.
use Rattle.std.specs.Prelude.{ℕ, ◌≡◌, ◌≢◌, ◌⊎◌, ◌+◌, ◌*◌, ◌<◌, ◌≤◌, ◌==◌, List, [], ◌∷◌, ◌++◌, All, AllPairs}
use Rattle.std.specs.Prelude.{Contains, Some, length, map, min}
use Rattle.std.specs.List.{filter, sum_by}
use Rattle.field_table.specs.Residues.{IsFieldModulus}
use Rattle.ideal_laws.specs.declared.account.Answer.{Answer}
use Rattle.ideal_laws.specs.declared.account.Answer.TheVariants as answer
use Rattle.ideal_laws.specs.declared.account.Call.{Call}
use Rattle.back_reduce.specs.declared.problem.Problem.{Problem}
use Rattle.back_reduce.specs.Pivots.{ArePivots}
use Rattle.pivot_core.specs.declared.view.Phase.TheVariants as phase
use Rattle.pivot_core.specs.declared.event.Event.{Event}
use Rattle.pivot_core.specs.declared.event.Kind.TheVariants as kind
use Rattle.pivot_core.specs.declared.event.Reply.{Reply}
use Rattle.pivot_core.specs.declared.event.Reply.TheVariants as reply
use Rattle.pivot_core.specs.Steps.{Stepped}
use Rattle.pivot_core.specs.Runs.{HasEnded, IsHeld, State, claim_at, held_row, holders, state_after, step_at, values}
use Rattle.pivot_core.specs.Runs.{view_at}
use Rattle.pivot_core.specs.Calls.{call_count, steps_of_row, won_count}
use Rattle.pivot_core.specs.Claimed.{ClaimedPivots}
use Rattle.pivot_core.specs.History.{Replays, merged}

-- a problem over a field, and a crew of 1 to 64
pub record IsSetting (problem : Problem) (crew : ℕ) : Type 0 where
  pub field : IsFieldModulus problem.modulus
  pub some : 0 < crew
  pub few : crew ≤ 64

-- the rule of claimed pivots holds in every state of every run
abbrev pub ClaimedPivotsLaw : Type 0
ClaimedPivotsLaw = (problem : Problem) (crew : ℕ) → IsSetting problem crew → (events : List Event) →
    ClaimedPivots problem crew (state_after problem crew events)

-- a held row never changes, and its column keeps its claim word
abbrev pub HeldRowsStay : Type 0
HeldRowsStay = (problem : Problem) (crew : ℕ) → IsSetting problem crew → (events more : List Event) (c : ℕ) →
    IsHeld problem (state_after problem crew events) c
    → (claim_at problem (state_after problem crew (events ++ more)) c
    ≡ claim_at problem (state_after problem crew events) c)
    × (held_row problem (state_after problem crew (events ++ more)) c
    ≡ held_row problem (state_after problem crew events) c)

-- in an ended state the held rows are pivots of the problem
abbrev pub HeldRowsArePivots : Type 0
HeldRowsArePivots = (problem : Problem) (crew : ℕ) → IsSetting problem crew → (events : List Event) →
    HasEnded problem (state_after problem crew events)
    → ArePivots problem (holders problem (state_after problem crew events))
    (values problem (state_after problem crew events))

-- the calls of a state, seat by seat
abbrev pub logs_of : State → List (List Call)
logs_of s = map (λ v. v.calls) s.views

-- the calls by (stamp, seat) are a history of the one-thread object, in which each stands once, and a seat's in its
-- own order
pub record IsLegalHistory (problem : Problem) (crew : ℕ) (s : State) : Type 0 where
  pub replays : Replays (merged (logs_of s))
  pub once : (c : ℕ) → won_count s c ≤ 1
  pub own_order : (i : ℕ) → i < crew → AllPairs (λ k l. k.stamp < l.stamp) (view_at problem s i).calls
  pub inside : (i : ℕ) → i < crew → All (Contains (merged (logs_of s))) (view_at problem s i).calls
  pub count : length (merged (logs_of s)) ≡ call_count s

abbrev pub OneLegalHistory : Type 0
OneLegalHistory = (problem : Problem) (crew : ℕ) → IsSetting problem crew → (events : List Event) →
    IsLegalHistory problem crew (state_after problem crew events)

-- the calls of one seat
abbrev pub calls_of : ℕ → List Call → List Call
calls_of seat calls = filter (λ k. k.seat == seat) calls

-- the history has the calls of each seat as the seat has made them, and no others, by rising (stamp, seat)
pub record IsMergeOfLogs (problem : Problem) (crew : ℕ) (s : State) : Type 0 where
  pub logs : (i : ℕ) → i < crew → calls_of i (merged (logs_of s)) ≡ (view_at problem s i).calls
  pub seats : All (λ k. k.seat < crew) (merged (logs_of s))
  pub order : AllPairs (λ k l. (k.stamp < l.stamp) ⊎ ((k.stamp ≡ l.stamp) × (k.seat < l.seat))) (merged (logs_of s))

abbrev pub HistoryMergesLogs : Type 0
HistoryMergesLogs = (problem : Problem) (crew : ℕ) → IsSetting problem crew → (events : List Event) →
    IsMergeOfLogs problem crew (state_after problem crew events)

-- what a look finds at a column on which this call was made
abbrev pub left_by : Call → Answer → Reply
left_by k answer.Won = reply.Held k.row k.stamp
left_by k (answer.Lost row stamp) = reply.Held row stamp

-- a look at a column on which the seat has made a call finds what the call left there
abbrev pub LooksFindCalls : Type 0
LooksFindCalls = (problem : Problem) (crew : ℕ) → IsSetting problem crew →
    (events : List Event) (e : Event) (row column : ℕ)
    → e.kind ≡ kind.Look → (view_at problem (state_after problem crew events) e.seat).phase ≡ phase.Looking row column
    → (k : Call) → Contains (view_at problem (state_after problem crew events) e.seat).calls k → k.column ≡ column
    → (t : Stepped) → step_at problem (state_after problem crew events) e ≡ Some t → t.reply ≡ left_by k k.answer

-- the stamp that a reply tells, and 0 where it tells none
abbrev pub stamp_told : Reply → ℕ
stamp_told (reply.Held row stamp) = stamp
stamp_told (reply.Claimed a) = elim a as (λ b. ℕ) [ answer.Won ↦ 0 | answer.Lost row stamp ↦ stamp ]
stamp_told r = 0

-- a call has a greater stamp than each that its seat had met before
abbrev pub CallsFollowWhatWasMet : Type 0
CallsFollowWhatWasMet = (problem : Problem) (crew : ℕ) → IsSetting problem crew →
    (events more : List Event) (e f : Event) (t u : Stepped)
    → e.seat ≡ f.seat → step_at problem (state_after problem crew events) e ≡ Some t →
    step_at problem (state_after problem crew (events ++ e ∷ more)) f ≡ Some u
    → (k : Call) → u.sight.calls ≡ (view_at problem (state_after problem crew (events ++ e ∷ more)) f.seat).calls
    ++ k ∷ [] → stamp_told t.reply < k.stamp

-- how many steps and claims a seat makes, and how great stamps grow
pub record IsCounted (problem : Problem) (crew : ℕ) (s : State) : Type 0 where
  pub columns : (i : ℕ) → i < crew → AllPairs (λ k l. k.column ≢ l.column) (view_at problem s i).calls
  pub claims : (i : ℕ) → i < crew → length (view_at problem s i).calls ≤ min problem.n problem.m
  pub steps : (i : ℕ) → i < crew → (view_at problem s i).steps ≤ (view_at problem s i).drawn * steps_of_row
      problem.m + 1
  pub all_steps : sum_by (λ v. v.steps) s.views ≤ problem.n * steps_of_row problem.m + crew
  pub stamps : (i : ℕ) → i < crew → All (λ k. k.stamp ≤ call_count s) (view_at problem s i).calls

abbrev pub StepCounts : Type 0
StepCounts = (problem : Problem) (crew : ℕ) → IsSetting problem crew → (events : List Event) →
    IsCounted problem crew (state_after problem crew events)
