-- The rows of a problem.
use Rattle.std.specs.Prelude.{ℕ, List, [], slice_index_or}
use Rattle.back_reduce.specs.declared.problem.Problem.{Problem}

-- the row with this number
abbrev pub row_of : List (List ℕ) → ℕ → List ℕ
row_of rows r = slice_index_or rows r []

abbrev pub rows_of : Problem → List (List ℕ)
rows_of problem = problem.rows.items
