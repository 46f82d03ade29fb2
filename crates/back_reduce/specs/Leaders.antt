-- Rows that lead at rising columns, and a row that is reduced by those of later columns.
use Rattle.std.specs.Prelude.{ℕ, ◌≡◌, ◌<◌, ◌↔◌, Bool, false, true, List, All, AllPairs, Contains, length, map}
use Rattle.std.specs.Prelude.{slice_index, slice_index_or}
use Rattle.field_table.specs.Residues.{IsFieldModulus}
use Rattle.linear_algebra.specs.Laws.{ResidueVector}
use Rattle.back_reduce.specs.declared.echelon.Leader.{Leader}
use Rattle.back_reduce.specs.declared.problem.Problem.{Problem}
use Rattle.back_reduce.specs.Problems.{rows_of}
use Rattle.back_reduce.specs.Rows.{IsInRowSpan, vector}
use Rattle.back_reduce.specs.Table.{IsLeader, IsPlusSum}

-- rows of m residues that lead at rising columns
pub record AreLeaders (p m : ℕ) (leaders : List Leader) : Type 0 where
  pub each : All (λ l. IsLeader p m l.column l.row) leaders
  pub rising : AllPairs (λ first second. first.column < second.column) leaders

-- all that leads in the span of a problem's rows
pub record AreLeadersOf (problem : Problem) (leaders : List Leader) : Type 0 where
  pub are : AreLeaders problem.modulus problem.m leaders
  pub span : (modulus : IsFieldModulus problem.modulus) (v : ResidueVector problem.modulus modulus ℕ)
      → IsInRowSpan problem.modulus modulus (map (λ l. l.row) leaders) v
      ↔ IsInRowSpan problem.modulus modulus (rows_of problem) v

-- the column of each leader is marked
abbrev pub AreMarked : List Leader → List Bool → Type 0
AreMarked leaders marks = All (λ l. slice_index_or marks l.column false ≡ true) leaders

-- one row and others of its length, with marks for their columns
pub record IsLeaderAmong (p : ℕ) (leaders : List Leader) (marks : List Bool) (own : Leader) : Type 0 where
  pub among : AreLeaders p (length own.row) leaders
  pub leader : IsLeader p (length own.row) own.column own.row
  pub size : length marks ≡ length own.row
  pub marked : AreMarked leaders marks

-- v is a row of a later column
pub record IsLaterVector (p : ℕ) (modulus : IsFieldModulus p) (leaders : List Leader) (column : ℕ)
    (v : ResidueVector p modulus ℕ) : Type 0 where
  pub later : Leader
  pub there : Contains leaders later
  pub after : column < later.column
  pub is : v ≡ vector p modulus later.row

-- the row now still leads at its column, is 0 at each later column of a leader, and is the row and a sum of multiples
-- of leaders of later columns
pub record IsReducedRow (p : ℕ) (leaders : List Leader) (column : ℕ) (row now : List ℕ) : Type 0 where
  pub leader : IsLeader p (length row) column now
  pub zero_later : (later : Leader) → Contains leaders later → column < later.column → slice_index now later.column ≡ 0
  pub sum : (modulus : IsFieldModulus p) → IsPlusSum p modulus (IsLaterVector p modulus leaders column) row now
