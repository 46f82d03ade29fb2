-- States of the machine of claims, events, and runs.
use Rattle.std.specs.Prelude.{ℕ, ◌≡◌, ◌≢◌, ◌+◌, ◌*◌, ◌<◌, ltb, if◌then◌else◌, List, [], ◌∷◌, map, length}
use Rattle.std.specs.Prelude.{Option, Some, None, slice_index}
use Rattle.std.specs.Prelude.{slice_index_or, slice_set}
use Rattle.std.specs.List.{range_with_len}
use Rattle.back_reduce.specs.declared.problem.Problem.{Problem}
use Rattle.back_reduce.specs.Pivots as pivots
use Rattle.pivot_core.specs.declared.view.Phase.TheVariants as phase
use Rattle.pivot_core.specs.declared.sight.Sight.{Sight}
use Rattle.pivot_core.specs.declared.event.Event.{Event}
use Rattle.pivot_core.specs.Words.{Spot, claim_of, holder_in, index_of, row_in, row_word, value_in}
use Rattle.pivot_core.specs.Views.{fresh, zeros}
use Rattle.pivot_core.specs.Steps.{Stepped, spot_of, step}

-- the words by their index, and the views by their seats
pub record State : Type 0 where
  pub words : List ℕ
  pub views : List Sight

abbrev pub word_at : Problem → State → Spot → ℕ
word_at problem s spot = slice_index s.words (index_of problem.m spot)

abbrev pub view_at : Problem → State → ℕ → Sight
view_at problem s seat = slice_index_or s.views seat (fresh problem.m seat)

-- all words 0 and all views fresh
abbrev pub opening : Problem → ℕ → State
opening problem crew = record {
  words = zeros (1 + problem.m + problem.n * problem.m);
  views = map (fresh problem.m) (range_with_len 0 crew);
}

-- the step of an event's seat on the word that it meets
abbrev pub step_at : Problem → State → Event → Option Stepped
step_at problem s e = if ltb e.seat (length s.views) then step problem (view_at problem s e.seat) e.kind
    (word_at problem s (spot_of (view_at problem s e.seat).phase)) else None

-- the state with a step of a seat made: its one word and its view are other ones
abbrev pub with_step : Problem → State → ℕ → Option Stepped → State
with_step problem s seat None = s
with_step problem s seat (Some t) = record {
  words = slice_set s.words (index_of problem.m (spot_of (view_at problem s seat).phase)) t.word;
  views = slice_set s.views seat t.sight;
}

abbrev pub after_event : Problem → State → Event → State
after_event problem s e = with_step problem s e.seat (step_at problem s e)

abbrev pub after_events : Problem → State → List Event → State
after_events problem s [] = s
after_events problem s (e ∷ es) = after_events problem (after_event problem s e) es

-- the state after a run
abbrev pub state_after : Problem → ℕ → List Event → State
state_after problem crew events = after_events problem (opening problem crew) events

-- every view has ended
abbrev pub HasEnded : Problem → State → Type 0
HasEnded problem s = (i : ℕ) → i < length s.views → (view_at problem s i).phase ≡ phase.Ended

abbrev pub claim_at : Problem → State → ℕ → ℕ
claim_at problem s c = word_at problem s (claim_of c)

-- a column below m whose claim word is not 0
pub record IsHeld (problem : Problem) (s : State) (c : ℕ) : Type 0 where
  pub below : c < problem.m
  pub some : claim_at problem s c ≢ 0

-- the row that holds a held column
abbrev pub holder_of : Problem → State → ℕ → ℕ
holder_of problem s c = row_in (claim_at problem s c)

-- the row that holds a column, where one does
abbrev pub holders : Problem → State → ℕ → Option ℕ
holders problem s c = holder_in (claim_at problem s c)

-- what a row has published at a column
abbrev pub published_at : Problem → State → ℕ → ℕ → ℕ
published_at problem s r j = word_at problem s (row_word r j)

-- what a held row has at a column
abbrev pub values : Problem → State → ℕ → ℕ → ℕ
values problem s c j = value_in (claim_at problem s c) (published_at problem s) c j

-- the held row of a column
abbrev pub held_row : Problem → State → ℕ → List ℕ
held_row problem s c = pivots.held_row problem.m (values problem s) c

-- the held rows by rising column
abbrev pub held_rows : Problem → State → List (List ℕ)
held_rows problem s = pivots.held_rows problem.m (holders problem s) (values problem s)
