-- What a race leaves.
use Rattle.std.specs.Prelude.{ℕ, ◌≡◌, ◌+◌, ◌<◌, List, Option, length, slice_index}
use Rattle.ideal_laws.specs.declared.account.Call.{Call}
use Rattle.back_reduce.specs.declared.problem.Problem.{Problem}
use Rattle.back_reduce.specs.Pivots.{ArePivots}
use Rattle.pivot_core.specs.declared.event.Event.{Event}
use Rattle.pivot_core.specs.Words.{holder_in, row_word, value_in}
use Rattle.pivot_core.specs.Runs.{HasEnded, holders, state_after, values}
use Rattle.pivot_core.specs.Laws.{logs_of}
use Rattle.pivot_table.specs.Cells.{cell_count, cell_of, half_at}
use Rattle.pivot_table.specs.Shares.{hand}
use Rattle.pivot_table.specs.declared.share.Hand.{Hand}
use Rattle.pivot_table.specs.Workers.{Standing}

-- a problem, the cells, and the calls of each worker
pub record Finished : Type 0 where
  pub problem : Problem
  pub cells : List ℕ
  pub logs : List (List Call)

-- the claim word of a column
abbrev pub claim_told : Finished → ℕ → ℕ
claim_told f c = slice_index f.cells (1 + c)

-- the row that holds a column
abbrev pub found_holders : Finished → ℕ → Option ℕ
found_holders f c = holder_in (claim_told f c)

-- what a row has published at a column
abbrev pub word_told : Finished → ℕ → ℕ → ℕ
word_told f r j = half_at j (slice_index f.cells (cell_of f.problem.m (row_word r j)))

-- the held row of column c at column j, and 0 where the column is free
abbrev pub found_values : Finished → ℕ → ℕ → ℕ
found_values f c j = value_in (claim_told f c) (word_told f) c j

-- the held rows are pivots of the problem
pub record IsFinished (f : Finished) : Type 0 where
  pub count : length f.cells ≡ cell_count f.problem.m f.problem.n
  pub pivots : ArePivots f.problem (found_holders f) (found_values f)

-- the end of a run of the race
pub record IsEndOf (problem : Problem) (crew : ℕ) (f : Finished) : Type 0 where
  pub events : List Event
  pub ended : HasEnded problem (state_after problem crew events)
  pub holders_are : (c : ℕ) → c < problem.m → found_holders f c ≡ holders problem (state_after problem crew events) c
  pub values_are : (c j : ℕ) → c < problem.m → j < problem.m
      → found_values f c j ≡ values problem (state_after problem crew events) c j
  pub logs_are : f.logs ≡ logs_of (state_after problem crew events)

-- the view of a worker, with what its row has published
abbrev pub hand_of : Standing → Hand
hand_of w = hand w.sight w.published
