-- Rows of residues, at most one that leads at each column, and how elimination puts a row among them.
use Rattle.std.specs.Prelude.{ℕ, ◌≡◌, ◌≢◌, ◌<◌, List, All, Option, None, Some, length, map, slice_index}
use Rattle.std.specs.Prelude.{slice_index_or, slice_set}
use Rattle.field_table.specs.Residues.{IsFieldModulus, product_of}
use Rattle.linear_algebra.specs.Laws.{ResidueVector}
use Rattle.linear_algebra.specs.Mod.{residue_field}
use Rattle.linear_algebra.specs.Spans.{IsInSpan}
use Rattle.back_reduce.specs.declared.problem.Problem.{Problem}
use Rattle.back_reduce.specs.declared.table.Held.{Held}
use Rattle.back_reduce.specs.Problems.{row_of, rows_of}
use Rattle.back_reduce.specs.Rows.{IsInRowSpan, vector}

-- a row of m residues with 1 at this column and 0 before it
pub record IsLeader (p m c : ℕ) (row : List ℕ) : Type 0 where
  pub size : length row ≡ m
  pub residues : All (λ a. a < p) row
  pub one : slice_index row c ≡ 1
  pub before : (k : ℕ) → k < c → slice_index row k ≡ 0

-- what holds a column
abbrev pub held_at : List (Option Held) → ℕ → Option Held
held_at table c = slice_index_or table c None

-- for each of m columns a row that leads there, or none
pub record IsTable (p m : ℕ) (table : List (Option Held)) : Type 0 where
  pub size : length table ≡ m
  pub leaders : (c : ℕ) (held : Held) → c < m → held_at table c ≡ Some held → IsLeader p m c held.row

-- the row now is the row and a sum of multiples of vectors with P
pub record IsPlusSum (p : ℕ) (modulus : IsFieldModulus p) (P : ResidueVector p modulus ℕ → Type 0)
    (row now : List ℕ) : Type 0 where
  pub rest : ResidueVector p modulus ℕ
  pub inside : IsInSpan (residue_field p modulus) ℕ P rest
  pub sum : (c : ℕ) → vector p modulus now c ≡ (residue_field p modulus).add (vector p modulus row c) (rest c)

-- v is a row of the table
pub record IsHeldVector (p : ℕ) (modulus : IsFieldModulus p) (table : List (Option Held))
    (v : ResidueVector p modulus ℕ) : Type 0 where
  pub column : ℕ
  pub held : Held
  pub there : held_at table column ≡ Some held
  pub is : v ≡ vector p modulus held.row

-- and a sum of multiples of rows of the table
abbrev pub IsPlusHeld : ℕ → List (Option Held) → List ℕ → List ℕ → Type 0
IsPlusHeld p table row now = (modulus : IsFieldModulus p) → IsPlusSum p modulus (IsHeldVector p modulus table) row now

-- the first column where the row is not 0, and no row leads there
pub record IsFirstFree (table : List (Option Held)) (row : List ℕ) (c : ℕ) : Type 0 where
  pub within : c < length row
  pub other : slice_index row c ≢ 0
  pub free : held_at table c ≡ None
  pub before : (k : ℕ) → k < c → slice_index row k ≡ 0

-- what is left of the row is 0, or is monic and stands in the table, at a column where none led
pub data IsInserted (p holder : ℕ) (table : List (Option Held)) (row : List ℕ) (after : List (Option Held)) : Type 0
  where
    nothing : (left : List ℕ) → IsPlusHeld p table row left → All (λ r. r ≡ 0) left → after ≡ table →
        IsInserted p holder table row after
    placed : (left : List ℕ) (c a : ℕ) (held : Held) → IsPlusHeld p table row left → c < length table →
        held_at table c ≡ None → a < p →
        product_of p a (slice_index left c) ≡ 1
        → held.holder ≡ holder → held.row ≡ map (λ r. product_of p a r) left →
        after ≡ slice_set table c (Some held) → IsInserted p holder table row after

-- the table after the first rows of a problem
pub record IsEliminated (problem : Problem) (count : ℕ) (table : List (Option Held)) : Type 0 where
  pub is_table : IsTable problem.modulus problem.m table
  pub earlier : (c : ℕ) (held : Held) → held_at table c ≡ Some held → held.holder < count
  pub apart : (c d : ℕ) (first second : Held) → held_at table c ≡ Some first → held_at table d ≡ Some second →
      first.holder ≡ second.holder → c ≡ d
  pub inside : (modulus : IsFieldModulus problem.modulus) (c : ℕ) (held : Held) → held_at table c ≡ Some held →
      IsInRowSpan problem.modulus modulus (rows_of problem) (vector problem.modulus modulus held.row)
  pub reached : (modulus : IsFieldModulus problem.modulus) (k : ℕ) → k < count
      → IsInSpan (residue_field problem.modulus modulus) ℕ (IsHeldVector problem.modulus modulus table)
      (vector problem.modulus modulus (row_of problem.rows.items k))
