-- The schedule generator: which seat makes the next step of the machine of claims.
use Rattle.std.specs.Prelude.{ℕ, ◌≡◌, ◌≢◌, ◌/◌, ◌%◌, ◌==◌, true, List, [], ◌∷◌, length, slice_index}
use Rattle.std.specs.List.{filter, range_with_len}
use Rattle.field_table.specs.Draws.{next_number}
use Rattle.back_reduce.specs.declared.problem.Problem.{Problem}
use Rattle.pivot_core.specs.declared.event.Event.{Event}
use Rattle.pivot_core.specs.Finished.{Finished}
use Rattle.pivot_core.specs.Laws.{logs_of}
use Rattle.pivot_core.specs.Phases.{is_ended}
use Rattle.pivot_core.specs.Steps.{is_next}
use Rattle.pivot_core.specs.Runs.{HasEnded, State, after_event, after_events, opening, state_after, view_at}

-- the seats that have not ended, rising
abbrev pub going_seats : Problem → State → List ℕ
going_seats problem s = filter (λ i. is_ended (view_at problem s i).phase == 0) (range_with_len 0 (length s.views))

-- the number chooses one of the seats that have not ended, by its upper half, and the event is the next step of this
-- seat
pub record IsChosen (problem : Problem) (s : State) (number : ℕ) (e : Event) : Type 0 where
  pub some : going_seats problem s ≢ []
  pub seat : e.seat ≡ slice_index (going_seats problem s) ((number / 65536) % length (going_seats problem s))
  pub kind : is_next e.kind (view_at problem s e.seat).phase ≡ true

-- events that one number after another chooses, until every view has ended
abbrev pub IsScheduled : Problem → State → ℕ → List Event → Type 0
IsScheduled problem s number [] = HasEnded problem s
IsScheduled problem s number (e ∷ es) = IsChosen problem s (next_number number) e
    × IsScheduled problem (after_event problem s e) (next_number number) es

-- what a run of the crew on the problem leaves, whose events the generator chooses that begins with the number
pub record IsScheduledRun (problem : Problem) (crew number : ℕ) (f : Finished) : Type 0 where
  pub problem_is : f.problem ≡ problem
  pub events : List Event
  pub scheduled : IsScheduled problem (opening problem crew) number events
  pub logs : f.logs ≡ logs_of (state_after problem crew events)

-- a schedule leads to one state
abbrev pub LeadsToOneState : Type 0
LeadsToOneState = (problem : Problem) (s : State) (number : ℕ) (events others : List Event) →
    IsScheduled problem s number events →
    IsScheduled problem s number others → after_events problem s events ≡ after_events problem s others
