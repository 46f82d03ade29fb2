-- The rule of the table, and what its steps tell.
use Rattle.std.specs.Prelude.{ℕ, ◌≡◌, ◌<◌, ◌≤◌, ◌^◌, List, [], ◌∷◌, All, Some, length, slice_index}
use Rattle.std.specs.List.{sum_by}
use Rattle.atomic_table.specs.Table as table
use Rattle.atomic_table.specs.Table.{Me, Step}
use Rattle.back_reduce.specs.declared.problem.Problem.{Problem}
use Rattle.pivot_core.specs.declared.event.Event.{Event}
use Rattle.pivot_core.specs.declared.event.Kind.{Kind}
use Rattle.pivot_core.specs.Words.{counter, row_word}
use Rattle.pivot_core.specs.Steps.{Stepped, met, spot_of}
use Rattle.pivot_core.specs.Runs.{State, state_after, view_at, word_at}
use Rattle.pivot_core.specs.Phases.{HasRow}
use Rattle.pivot_core.specs.Laws.{IsSetting}
use Rattle.pivot_table.specs.declared.share.Setting.{Setting}
use Rattle.pivot_table.specs.declared.share.Hand.{Hand}
use Rattle.pivot_table.specs.declared.share.Share.{Share}
use Rattle.pivot_table.specs.Cells.{ArePacked, part_of}
use Rattle.pivot_table.specs.Events.{one_more}
use Rattle.pivot_table.specs.Shares.{count_of, hand, published_after, share}

-- a hand has a view of this state, and beside it the row words of its current row
pub record IsHandIn (problem : Problem) (crew : ℕ) (s : State) (x : Hand) : Type 0 where
  pub seat : x.sight.seat < crew
  pub sight : x.sight ≡ view_at problem s x.sight.seat
  pub size : length x.published ≡ problem.m
  pub residues : All (λ a. a < problem.modulus) x.published
  pub published : (r j : ℕ) → HasRow x.sight.phase r → j < problem.m
      → slice_index x.published j ≡ word_at problem s (row_word r j)

-- a share that is not empty has this problem and crew, and its hands have views of this state
pub record IsShareIn (problem : Problem) (crew : ℕ) (s : State) (v : Share) : Type 0 where
  pub of : 0 < length v.hands → v.problem ≡ problem
  pub among : 0 < length v.hands → v.crew ≡ crew
  pub hands : All (IsHandIn problem crew s) v.hands

-- a setting with numbers of 32 bits
pub record IsPlace (problem : Problem) (crew : ℕ) : Type 0 where
  pub setting : IsSetting problem crew
  pub rows : problem.n < 2 ^ 32
  pub columns : problem.m < 2 ^ 32
  pub modulus : problem.modulus < 2 ^ 32

-- the row words of rows that are not drawn are 0
abbrev pub AreUnwritten : Problem → State → Type 0
AreUnwritten problem s =
    (r j : ℕ) → word_at problem s counter ≤ r → r < problem.n → j < problem.m → word_at problem s (row_word r j) ≡ 0

-- cells and shares show the state s: each seat number of the crew stands once in all shares
pub record IsShown (problem : Problem) (crew : ℕ) (s : State) (cells : List ℕ) (shares : List Share) : Type 0 where
  pub packed : ArePacked problem cells s
  pub each : All (IsShareIn problem crew s) shares
  pub once : (i : ℕ) → i < crew → sum_by (count_of i) shares ≡ 1
  pub unwritten : AreUnwritten problem s

-- the rule of the table: its cells and its shares show the state after some list of events
pub record IsKept (k : Setting) (t : table.State ℕ Share) : Type 0 where
  pub place : IsPlace k.problem k.crew
  pub events : List Event
  pub shown : IsShown k.problem k.crew (state_after k.problem k.crew events) t.words t.views

-- a hand stood in a run and met this word, and its step makes it y, which stands in the run with this one event more
pub record IsStepped (problem : Problem) (crew : ℕ) (x : Hand) (old : ℕ) (y : Hand) : Type 0 where
  pub place : IsPlace problem crew
  pub events : List Event
  pub stood : IsHandIn problem crew (state_after problem crew events) x
  pub found : old ≡ word_at problem (state_after problem crew events) (spot_of x.sight.phase)
  pub stepped : Stepped
  pub gives : met problem x.sight old ≡ Some stepped
  pub after : y ≡ hand stepped.sight (published_after problem.m x)
  pub kind : Kind
  pub stands : IsHandIn problem crew (state_after problem crew (one_more events x.sight.seat kind)) y

-- a seat of one hand makes a step and is told the cell that it met
abbrev pub met_by : Step ℕ → Me ℕ Share → ℕ → Me ℕ Share → Type 0
met_by a me cell after =
    (x : Hand) × (y : Hand)
    × (me.0 ≡ share me.0.problem me.0.crew (x ∷ []))
    × (after ≡ (share me.0.problem me.0.crew (y ∷ []), []))
    × IsStepped me.0.problem me.0.crew x (part_of (spot_of x.sight.phase) cell) y

-- a seat of one hand makes a store, which is not told what stood there
abbrev pub put_by : Step ℕ → Me ℕ Share → ℕ → Me ℕ Share → Type 0
put_by a me cell after =
    (x : Hand) × (y : Hand)
    × (me.0 ≡ share me.0.problem me.0.crew (x ∷ []))
    × (after ≡ (share me.0.problem me.0.crew (y ∷ []), []))
    × ((old : ℕ) × IsStepped me.0.problem me.0.crew x old y)
