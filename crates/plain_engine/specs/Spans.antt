-- Rows that are gathered until they are reduced, and what they span.
use Rattle.std.specs.Prelude.{ℕ, ◌≡◌, ◌+◌, ◌*◌, ◌≤◌, ◌↔◌, true, List, All, length}
use Rattle.field_table.specs.Residues.{IsFieldModulus}
use Rattle.linear_algebra.specs.Laws.{ResidueVector}
use Rattle.linear_algebra.specs.Mod.{residue_field}
use Rattle.back_reduce.specs.Rows.{IsInRowSpan, IsRow}
use Rattle.plain_engine.specs.declared.gathered.Gathered.{Gathered}

-- the rows of both lists have one span
pub record HaveOneSpan (p : ℕ) (rows others : List (List ℕ)) : Type 0 where
  pub same : (modulus : IsFieldModulus p) (v : ResidueVector p modulus ℕ)
      → IsInRowSpan p modulus rows v ↔ IsInRowSpan p modulus others v

-- each vector that is 0 past m columns is in the span
abbrev pub SpansAll : ℕ → ℕ → List (List ℕ) → Type 0
SpansAll p m rows = (modulus : IsFieldModulus p) (v : ResidueVector p modulus ℕ)
    → ((c : ℕ) → m ≤ c → v c ≡ (residue_field p modulus).zero) → IsInRowSpan p modulus rows v

-- rows of m residues, at most one more than twice as many, which span all where they are said to
pub record IsGathered (p m : ℕ) (gathered : Gathered) : Type 0 where
  pub each : All (IsRow p m) gathered.rows.items
  pub few : length gathered.rows.items ≤ 2 * m + 1
  pub full : gathered.full ≡ true → SpansAll p m gathered.rows.items
