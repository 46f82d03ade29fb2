-- The machine of claims on one thread, as contracts see it.
use Rattle.std.specs.Prelude.{ℕ, ◌≡◌, ◌-◌, ◌^◌, ◌<◌, List, Some, length, map, slice_index, slice_set}
use Rattle.std.specs.Vec.{vec_capacity}
use Rattle.back_reduce.specs.declared.problem.Problem.{Problem}
use Rattle.pivot_core.specs.declared.event.Reply.{Reply}
use Rattle.pivot_core.specs.declared.sight.Sight.{Sight}
use Rattle.pivot_core.specs.declared.view.Phase.{Phase}
use Rattle.pivot_core.specs.declared.view.Phase.TheVariants as phase
use Rattle.pivot_core.specs.declared.view.View.{View}
use Rattle.pivot_core.specs.Words.{index_of}
use Rattle.pivot_core.specs.Views.{sight_of}
use Rattle.pivot_core.specs.Steps.{met, spot_of}
use Rattle.pivot_core.specs.Meets.{IsClaiming, MayMeet}
use Rattle.pivot_core.specs.Runs.{State}

-- a problem, a crew, and a state
pub record Machine : Type 0 where
  pub problem : Problem
  pub crew : ℕ
  pub state : State

-- the state of words and views
abbrev pub state_of : List ℕ → List View → State
state_of words views = record { words = words; views = map sight_of views }

-- the index of the word that the next step of a phase meets, and this word
abbrev pub met_at : Problem → Phase → ℕ
met_at problem f = index_of problem.m (spot_of f)

abbrev pub met_in : Problem → List ℕ → Phase → ℕ
met_in problem words f = slice_index words (met_at problem f)

-- a view that may make its next step on these words, with room for the call of a claim
pub record MayStep (problem : Problem) (words : List ℕ) (v : View) : Type 0 where
  pub within : met_at problem v.phase < length words
  pub may : MayMeet problem (sight_of v) (met_in problem words v.phase)
  pub count : v.phase ≡ phase.Fresh → met_in problem words v.phase < 2 ^ 64 - 1
  pub room : IsClaiming v.phase → length v.calls.items < vec_capacity v.calls

-- the next step of v on one of these words gives the view w and the reply r, and leaves the words after
pub record IsMade (problem : Problem) (words : List ℕ) (v : Sight) (after : List ℕ) (w : Sight) (r : Reply) : Type 0
  where
    pub word : ℕ
    pub gives : met problem v (met_in problem words v.phase) ≡ Some (record { sight = w; word = word; reply = r })
    pub leaves : after ≡ slice_set words (met_at problem v.phase) word
