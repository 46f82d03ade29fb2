-- Pivots as a table.
use Rattle.std.specs.Prelude.{ℕ, ◌≡◌, List, Option, None, Some, length, slice_index}
use Rattle.back_reduce.specs.declared.problem.Problem.{Problem}
use Rattle.back_reduce.specs.declared.table.Held.{Held}
use Rattle.back_reduce.specs.Pivots.{ArePivots}
use Rattle.back_reduce.specs.Table.{held_at}

-- a problem with what holds each of its columns
pub record Sequential : Type 0 where
  pub problem : Problem
  pub table : List (Option Held)

abbrev pub holder_of : Option Held → Option ℕ
holder_of None = None
holder_of (Some held) = Some held.holder

abbrev pub value_of : Option Held → ℕ → ℕ
value_of None k = 0
value_of (Some held) k = slice_index held.row k

abbrev pub holder_in : List (Option Held) → ℕ → Option ℕ
holder_in table c = holder_of (held_at table c)

abbrev pub value_in : List (Option Held) → ℕ → ℕ → ℕ
value_in table c = value_of (held_at table c)

-- the table has the pivots of the problem
pub record IsSequential (problem : Problem) (table : List (Option Held)) : Type 0 where
  pub size : length table ≡ problem.m
  pub widths : (c : ℕ) (held : Held) → held_at table c ≡ Some held → length held.row ≡ problem.m
  pub pivots : ArePivots problem (holder_in table) (value_in table)
