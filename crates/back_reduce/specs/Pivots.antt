-- Pivots of a problem: columns that are held, each by another row, and the rows that lead there.
use Rattle.std.specs.Prelude.{ℕ, ◌≡◌, ◌<◌, ◌↔◌, List, [], ◌∷◌, Option, None, Some, map}
use Rattle.std.specs.List.{flat_map, range_with_len}
use Rattle.field_table.specs.Residues.{IsFieldModulus}
use Rattle.linear_algebra.specs.Laws.{ResidueVector}
use Rattle.back_reduce.specs.declared.problem.Problem.{Problem}
use Rattle.back_reduce.specs.Problems.{rows_of}
use Rattle.back_reduce.specs.Rows.{IsInRowSpan}

-- the row of m residues that leads at a column
abbrev pub held_row : ℕ → (ℕ → ℕ → ℕ) → ℕ → List ℕ
held_row m value c = map (value c) (range_with_len 0 m)

-- the row, where its column is held
abbrev pub where_held : {A : Type 0} → Option ℕ → A → List A
where_held None row = []
where_held (Some r) row = row ∷ []

-- the held columns, rising
abbrev pub held_columns : ℕ → (ℕ → Option ℕ) → List ℕ
held_columns m holder = flat_map (λ c. where_held (holder c) c) (range_with_len 0 m)

-- the held rows by rising column
abbrev pub held_rows : ℕ → (ℕ → Option ℕ) → (ℕ → ℕ → ℕ) → List (List ℕ)
held_rows m holder value = map (held_row m value) (held_columns m holder)

-- what is known of the row that holds a column
pub record IsHolder (p m n : ℕ) (value : ℕ → ℕ) (c r : ℕ) : Type 0 where
  pub row : r < n
  pub residues : (k : ℕ) → k < m → value k < p
  pub before : (k : ℕ) → k < c → value k ≡ 0
  pub one : value c ≡ 1

-- each held column has a row of its own, which is 0 before it and 1 at it, and the held rows have the span of the
-- problem's rows
pub record ArePivots (problem : Problem) (holder : ℕ → Option ℕ) (value : ℕ → ℕ → ℕ) : Type 0 where
  pub each : (c r : ℕ) → c < problem.m → holder c ≡ Some r → IsHolder problem.modulus problem.m problem.n (value c) c r
  pub apart : (c d r : ℕ) → c < problem.m → d < problem.m → holder c ≡ Some r → holder d ≡ Some r → c ≡ d
  pub free : (c k : ℕ) → c < problem.m → k < problem.m → holder c ≡ None → value c k ≡ 0
  pub span : (modulus : IsFieldModulus problem.modulus) (v : ResidueVector problem.modulus modulus ℕ)
      → IsInRowSpan problem.modulus modulus (held_rows problem.m holder value) v
      ↔ IsInRowSpan problem.modulus modulus (rows_of problem) v
