-- Rows of residues as vectors over numbered columns, and their span.
use Rattle.std.specs.Prelude.{ℕ, ◌≡◌, ◌*◌, ◌<◌, List, All, drop, length, map, slice_index, take}
use Rattle.std.specs.List.{range_with_len}
use Rattle.field_table.specs.Residues.{IsFieldModulus}
use Rattle.linear_algebra.specs.Echelon.{IsOneOf}
use Rattle.linear_algebra.specs.Laws.{ResidueVector}
use Rattle.linear_algebra.specs.Mod.{of, residue_field}
use Rattle.linear_algebra.specs.Spans.{IsInSpan}

-- a list of m residues
pub record IsRow (p m : ℕ) (row : List ℕ) : Type 0 where
  pub size : length row ≡ m
  pub residues : All (λ a. a < p) row

-- n rows of m residues that stand one after another
abbrev pub cut_rows : ℕ → ℕ → List ℕ → List (List ℕ)
cut_rows m n cells = map (λ r. take m (drop (r * m) cells)) (range_with_len 0 n)

module _ (p : ℕ) (modulus : IsFieldModulus p) where
  -- a row has its residue at each of its columns, and 0 at the others
  abbrev pub vector : List ℕ → ResidueVector p modulus ℕ
  vector row c = of p modulus.two_or_more modulus.has_inverse (slice_index row c)

  -- v is a sum of multiples of the rows
  abbrev pub IsInRowSpan : List (List ℕ) → ResidueVector p modulus ℕ → Type 0
  IsInRowSpan rows v = IsInSpan (residue_field p modulus) ℕ (IsOneOf (residue_field p modulus) ℕ (map vector rows)) v
