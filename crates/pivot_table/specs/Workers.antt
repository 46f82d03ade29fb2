-- Workers and races, as contracts see them.
use Rattle.std.specs.Prelude.{ℕ, ◌≡◌, ◌+◌, ◌<◌, List, map}
use Rattle.atomic_table.specs.Seated.{TableId}
use Rattle.back_reduce.specs.declared.problem.Problem.{Problem}
use Rattle.pivot_core.specs.declared.view.Phase.{Phase}
use Rattle.pivot_core.specs.declared.view.Phase.TheVariants as phase
use Rattle.pivot_core.specs.declared.sight.Sight.{Sight}
use Rattle.pivot_core.specs.declared.event.Event.{Event}
use Rattle.pivot_core.specs.declared.event.Kind.{Kind}
use Rattle.pivot_core.specs.declared.event.Reply.{Reply}
use Rattle.pivot_core.specs.Steps.{IsMet, spot_of}
use Rattle.pivot_core.specs.Views.{fresh, zeros}
use Rattle.std.specs.List.{range_with_len}
use Rattle.pivot_core.specs.Laws.{IsSetting}
use Rattle.pivot_core.specs.Runs.{state_after, view_at, word_at}
use Rattle.pivot_table.specs.declared.share.Setting.{Setting}
use Rattle.pivot_table.specs.Events.{one_more}

-- a seat of a table, with the problem and the crew of the race, its view and what its row has published
pub record Standing : Type 0 where
  pub table : TableId
  pub problem : Problem
  pub crew : ℕ
  pub sight : Sight
  pub published : List ℕ

-- a table, with the problem and the crew
pub record Arena : Type 0 where
  pub table : TableId
  pub problem : Problem
  pub crew : ℕ

-- the race of a table and a setting
abbrev pub arena_of : TableId → Setting → Arena
arena_of table k = record { table = table; problem = k.problem; crew = k.crew }

-- the worker belongs to the race
pub record IsOf (race : Arena) (w : Standing) : Type 0 where
  pub table : w.table ≡ race.table
  pub problem : w.problem ≡ race.problem
  pub crew : w.crew ≡ race.crew

-- the worker's view stood in a run of the race, where its next step met the word `old`; the step gave it the view
-- after, which stands in the run with this one event more, and told this reply
pub record IsTaken (race : Arena) (before after : Standing) (reply : Reply) : Type 0 where
  pub setting : IsSetting race.problem race.crew
  pub seat : before.sight.seat < race.crew
  pub events : List Event
  pub stood : before.sight ≡ view_at race.problem (state_after race.problem race.crew events) before.sight.seat
  pub old : ℕ
  pub found : old ≡ word_at race.problem (state_after race.problem race.crew events) (spot_of before.sight.phase)
  pub met : IsMet race.problem before.sight old after.sight reply
  pub kind : Kind
  pub stands : after.sight ≡ view_at race.problem
      (state_after race.problem race.crew (one_more events before.sight.seat kind)) after.sight.seat

-- the worker has taken one step or more, each as `IsTaken` says
pub data AreTaken (race : Arena) (before : Standing) : Standing → Type 0 where
  begun : (after : Standing) (r : Reply) → IsTaken race before after r → AreTaken race before after
  gone_on : (between after : Standing) (r : Reply) → AreTaken race before between → IsTaken race between after r →
      AreTaken race before after

-- all words of the holder are read but the last
pub record IsReadUpto (m : ℕ) (f : Phase) : Type 0 where
  pub row : ℕ
  pub column : ℕ
  pub holder : ℕ
  pub at : ℕ
  pub is : f ≡ phase.Reading row column holder at
  pub last : at + 1 ≡ m

-- a worker before its first step
abbrev pub fresh_worker : Arena → ℕ → Standing
fresh_worker race seat = record {
  table = race.table;
  problem = race.problem;
  crew = race.crew;
  sight = fresh race.problem.m seat;
  published = zeros race.problem.m;
}

-- the whole crew before the first step, by seat
abbrev pub fresh_crew : Arena → List Standing
fresh_crew race = map (fresh_worker race) (range_with_len 0 race.crew)
