-- The rule of claimed pivots: its clauses on words, views and rows.
use Rattle.std.specs.Prelude.{ℕ, ◌≡◌, ◌+◌, ◌*◌, ◌<◌, ◌≤◌, List, length, min, slice_index}
use Rattle.std.specs.List.{sum_by}
use Rattle.field_table.specs.Residues.{IsFieldModulus}
use Rattle.linear_algebra.specs.Laws.{ResidueVector}
use Rattle.linear_algebra.specs.Mod.{of, residue_field}
use Rattle.back_reduce.specs.declared.problem.Problem.{Problem}
use Rattle.back_reduce.specs.Problems.{rows_of}
use Rattle.back_reduce.specs.Rows.{IsInRowSpan, IsRow, vector}
use Rattle.pivot_core.specs.declared.view.Phase.{Phase}
use Rattle.pivot_core.specs.declared.view.Phase.TheVariants as phase
use Rattle.pivot_core.specs.Words.{counter, row_word, IsClaimWord}
use Rattle.pivot_core.specs.Views.{given_row}
use Rattle.pivot_core.specs.Runs.{State, IsHeld, claim_at, held_row, held_rows, holder_of, view_at, word_at}
use Rattle.pivot_core.specs.Phases.{HasRow, IsSight, column_of, is_ended, published_upto}

-- Ranges. Each view is in range, each claim word is free or a claim, and each word and view has its place
pub record Ranges (problem : Problem) (crew : ℕ) (s : State) : Type 0 where
  pub words : length s.words ≡ 1 + problem.m + problem.n * problem.m
  pub count : length s.views ≡ crew
  pub seats : (i : ℕ) → i < crew → (view_at problem s i).seat ≡ i
  pub views : (i : ℕ) → i < crew → IsSight problem.m problem.n (view_at problem s i)
  pub claims : (c : ℕ) → c < problem.m → IsClaimWord problem.n (claim_at problem s c)

-- Counter sum. The counter is the draws and the ended views together, and all rows are drawn where a view has ended
pub record CounterSum (problem : Problem) (s : State) : Type 0 where
  pub counts : word_at problem s counter ≡ sum_by (λ v. v.drawn) s.views + sum_by (λ v. is_ended v.phase) s.views
  pub few : sum_by (λ v. v.drawn) s.views ≤ problem.n
  pub whole : 0 < sum_by (λ v. is_ended v.phase) s.views → sum_by (λ v. v.drawn) s.views ≡ problem.n

-- Disjoint rows. Current rows and holders are drawn rows, and no row is in two places
pub record DisjointRows (problem : Problem) (crew : ℕ) (s : State) : Type 0 where
  pub drawn : (i r : ℕ) → i < crew → HasRow (view_at problem s i).phase r →
      r < min (word_at problem s counter) problem.n
  pub holders_drawn : (c : ℕ) → IsHeld problem s c → holder_of problem s c < min (word_at problem s counter) problem.n
  pub views_apart : (i j r : ℕ) → i < crew → j < crew → HasRow (view_at problem s i).phase r →
      HasRow (view_at problem s j).phase r → i ≡ j
  pub holders_apart : (c d : ℕ) → IsHeld problem s c → IsHeld problem s d →
      holder_of problem s c ≡ holder_of problem s d → c ≡ d
  pub both_apart : (i c : ℕ) → i < crew → IsHeld problem s c →
      HasRow (view_at problem s i).phase (holder_of problem s c) → ⊥

-- Held rows in the span. A held row has residues, is 1 at its column, and is in the span of the problem's rows
pub record HeldInSpan (problem : Problem) (s : State) : Type 0 where
  pub residues : (c : ℕ) → IsHeld problem s c → IsRow problem.modulus problem.m (held_row problem s c)
  pub one : (c : ℕ) → IsHeld problem s c → slice_index (held_row problem s c) c ≡ 1
  pub inside : (modulus : IsFieldModulus problem.modulus) (c : ℕ) → IsHeld problem s c →
      IsInRowSpan problem.modulus modulus (rows_of problem) (vector problem.modulus modulus (held_row problem s c))

-- Published prefix. A current row has residues, is 0 before its column and 1 at it, and is published so far
pub record PublishedPrefix (problem : Problem) (crew : ℕ) (s : State) : Type 0 where
  pub residues : (i r : ℕ) → i < crew → HasRow (view_at problem s i).phase r →
      IsRow problem.modulus problem.m (view_at problem s i).current
  pub before : (i r j : ℕ) → i < crew → HasRow (view_at problem s i).phase r →
      j < column_of (view_at problem s i).phase →
      slice_index (view_at problem s i).current j ≡ 0
  pub one : (i r : ℕ) → i < crew → HasRow (view_at problem s i).phase r →
      slice_index (view_at problem s i).current (column_of (view_at problem s i).phase) ≡ 1
  pub published : (i r j : ℕ) → i < crew → HasRow (view_at problem s i).phase r →
      column_of (view_at problem s i).phase ≤ j →
      j < published_upto problem.m (view_at problem s i).phase
      → word_at problem s (row_word r j) ≡ slice_index (view_at problem s i).current j

-- in Reading the column is held by the holder, and `seen` is the held row before `at`, and 0 from there on
abbrev pub IsRead : Problem → State → Phase → List ℕ → Type 0
IsRead problem s (phase.Reading row column holder at) seen = IsHeld problem s column
    × (holder_of problem s column ≡ holder)
    × ((j : ℕ) → j < at → slice_index seen j ≡ slice_index (held_row problem s column) j)
    × ((j : ℕ) → at ≤ j → j < problem.m → slice_index seen j ≡ 0)
IsRead problem s f seen = Unit {0}

-- Read prefix. Each view that reads has seen the held row so far
abbrev pub ReadPrefix : Problem → ℕ → State → Type 0
ReadPrefix problem crew s = (i : ℕ) → i < crew → IsRead problem s (view_at problem s i).phase (view_at problem s i).seen

-- a row is a multiple of `current`, by a residue other than 0, and a sum of multiples of held rows
pub record IsModulo (problem : Problem) (modulus : IsFieldModulus problem.modulus) (s : State)
    (row current : List ℕ) : Type 0 where
  pub factor : ℕ
  pub some : 0 < factor
  pub residue : factor < problem.modulus
  pub rest : ResidueVector problem.modulus modulus ℕ
  pub inside : IsInRowSpan problem.modulus modulus (held_rows problem s) rest
  pub sum : (c : ℕ) → vector problem.modulus modulus row c
      ≡ (residue_field problem.modulus modulus).add ((residue_field problem.modulus modulus).mul
      (of problem.modulus modulus.two_or_more modulus.has_inverse factor)
      (vector problem.modulus modulus current c)) (rest c)

-- Current row modulo held rows. A row less a multiple of what is current of it is in the span of the held rows
abbrev pub CurrentModuloHeld : Problem → ℕ → State → Type 0
CurrentModuloHeld problem crew s = (modulus : IsFieldModulus problem.modulus) (i r : ℕ) → i < crew →
    HasRow (view_at problem s i).phase r →
    IsModulo problem modulus s (given_row problem r) (view_at problem s i).current

-- a row is current for no view
abbrev pub IsSettled : Problem → ℕ → State → ℕ → Type 0
IsSettled problem crew s r = (i : ℕ) → i < crew → HasRow (view_at problem s i).phase r → ⊥

-- Settled rows in the span. A drawn row that is not current is in the span of the held rows
abbrev pub SettledInSpan : Problem → ℕ → State → Type 0
SettledInSpan problem crew s = (modulus : IsFieldModulus problem.modulus) (r : ℕ) →
    r < min (word_at problem s counter) problem.n → IsSettled problem crew s r
    → IsInRowSpan problem.modulus modulus (held_rows problem s) (vector problem.modulus modulus (given_row problem r))
