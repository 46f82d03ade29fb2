-- The reduced row echelon form of the span of rows.
use Rattle.std.specs.Prelude.{ℕ, ◌≡◌, List, All, length, map, zip}
use Rattle.std.specs.List.{range_with_len}
use Rattle.field_table.specs.Residues.{IsFieldModulus}
use Rattle.linear_algebra.specs.Echelon.{IsBasis}
use Rattle.linear_algebra.specs.Mod.{residue_field}
use Rattle.back_reduce.specs.Rows.{IsRow, vector}

-- rows of m residues with their leading columns, in rising order, each 1 at its own, where the others are 0, with the
-- span of the given rows
pub record IsRref (p m : ℕ) (rows echelon : List (List ℕ)) : Type 0 where
  pub each : All (IsRow p m) echelon
  pub leads : List ℕ
  pub count : length leads ≡ length echelon
  pub basis : (modulus : IsFieldModulus p) → IsBasis (residue_field p modulus) ℕ (range_with_len 0 m)
      (map (vector p modulus) rows)
      (zip leads (map (vector p modulus) echelon))

-- exactly one list is the reduced row echelon form of rows of m residues
pub record HasOneRref (p m : ℕ) (rows : List (List ℕ)) : Type 0 where
  pub echelon : List (List ℕ)
  pub form : IsRref p m rows echelon
  pub one : (other : List (List ℕ)) → IsRref p m rows other → other ≡ echelon

-- the one echelon form law
abbrev pub HaveOneRref : Type 0
HaveOneRref = (p m : ℕ) (rows : List (List ℕ)) → IsFieldModulus p → All (IsRow p m) rows → HasOneRref p m rows
