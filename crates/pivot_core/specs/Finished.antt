-- What the machine of claims leaves.
use Rattle.std.specs.Prelude.{ℕ, ◌≡◌, ◌+◌, ◌*◌, List, [], Option, length}
use Rattle.ideal_laws.specs.declared.account.Call.{Call}
use Rattle.back_reduce.specs.declared.problem.Problem.{Problem}
use Rattle.back_reduce.specs.Pivots.{ArePivots}
use Rattle.pivot_core.specs.Runs.{State, holders, values}

-- a problem, the words, and the calls of each view
pub record Finished : Type 0 where
  pub problem : Problem
  pub words : List ℕ
  pub logs : List (List Call)

-- words alone tell who holds a column, and what its row has
abbrev pub words_alone : List ℕ → State
words_alone words = record { words = words; views = [] }

abbrev pub found_holders : Finished → ℕ → Option ℕ
found_holders f = holders f.problem (words_alone f.words)

abbrev pub found_values : Finished → ℕ → ℕ → ℕ
found_values f = values f.problem (words_alone f.words)

-- the held rows are pivots of the problem
pub record IsFinished (problem : Problem) (words : List ℕ) : Type 0 where
  pub count : length words ≡ 1 + problem.m + problem.n * problem.m
  pub pivots : ArePivots problem (holders problem (words_alone words)) (values problem (words_alone words))
