-- The words of the machine in the cells of a table, two row words in one cell.
use Rattle.std.specs.Prelude.{ℕ, ◌≡◌, ◌+◌, ◌-◌, ◌*◌, ◌/◌, ◌%◌, ◌^◌, ◌<◌, ◌==◌, cond, List, length, slice_index}
use Rattle.back_reduce.specs.declared.problem.Problem.{Problem}
use Rattle.pivot_core.specs.Words.{IsSpot, Spot, claim_of, counter, row_word}
use Rattle.pivot_core.specs.Runs.{State, word_at}

-- how many cells a row of m words takes
abbrev pub half : ℕ → ℕ
half m = (m + 1) / 2

-- how many cells there are for m columns and n rows
abbrev pub cell_count : ℕ → ℕ → ℕ
cell_count m n = 1 + m + n * half m

-- the cell in which a word stands
abbrev pub cell_of : ℕ → Spot → ℕ
cell_of m counter = 0
cell_of m (claim_of c) = 1 + c
cell_of m (row_word r j) = 1 + m + r * half m + j / 2

-- the half of a cell that the word at a column has
abbrev pub half_at : ℕ → ℕ → ℕ
half_at j cell = cond (j % 2 == 0) (cell % 2 ^ 32) (cell / 2 ^ 32)

-- the part of its cell that a word is
abbrev pub part_of : Spot → ℕ → ℕ
part_of counter cell = cell
part_of (claim_of c) cell = cell
part_of (row_word r j) cell = half_at j cell

-- the cell of the words of a row at a column and beside it
abbrev pub pair_at : List ℕ → ℕ → ℕ
pair_at row j = slice_index row (2 * (j / 2)) + slice_index row (2 * (j / 2) + 1) * 2 ^ 32

-- what stands in the cell of a word
abbrev pub cell_at : ℕ → List ℕ → Spot → ℕ
cell_at m cells a = slice_index cells (cell_of m a)

-- the words of a state stand in these cells, and the high half at the end of an odd row is 0
pub record ArePacked (problem : Problem) (cells : List ℕ) (s : State) : Type 0 where
  pub count : length cells ≡ cell_count problem.m problem.n
  pub words : (a : Spot) → IsSpot problem.m problem.n a → part_of a (cell_at problem.m cells a) ≡ word_at problem s a
  pub rest : (r : ℕ) → r < problem.n → problem.m % 2 ≡ 1
      → half_at 1 (cell_at problem.m cells (row_word r (problem.m - 1))) ≡ 0
