-- Laws of linear algebra over the residues of a field modulus, for vectors with an entry at each value of a type and
-- columns of this type in an order.
use Rattle.std.specs.Prelude.{ℕ, ◌<◌, ◌↔◌, List, length}
use Rattle.field_table.specs.Residues.{IsFieldModulus}
use Rattle.linear_algebra.specs.Spans.{Vector, IsInSpan}
use Rattle.linear_algebra.specs.Echelon.{AreSameRows, IsBasis, IsOneOf}
use Rattle.linear_algebra.specs.Dependence.{IsDependent}
use Rattle.linear_algebra.specs.Mod.{residue_field}

-- vectors over the residues of a field modulus
abbrev pub ResidueVector : (p : ℕ) → IsFieldModulus p → Type 0 → Type 0
ResidueVector p modulus X = Vector (residue_field p modulus) X

-- each list of vectors has a reduced basis over the columns
abbrev pub HasElimination : Type 0 → Type 0
HasElimination X = (p : ℕ) (modulus : IsFieldModulus p) (columns : List X) (vectors : List (ResidueVector p modulus X))
    → (rows : List (X × ResidueVector p modulus X)) × IsBasis (residue_field p modulus) X columns vectors rows

-- two lists of vectors with one span have the same reduced basis
abbrev pub HasOneForm : Type 0 → Type 0
HasOneForm X = (p : ℕ) (modulus : IsFieldModulus p) (columns : List X)
    (vectors others : List (ResidueVector p modulus X))
    → ((v : ResidueVector p modulus X) → IsInSpan (residue_field p modulus) X
    (IsOneOf (residue_field p modulus) X vectors) v ↔ IsInSpan
    (residue_field p modulus) X (IsOneOf (residue_field p modulus) X others) v)
    → (first second : List (X × ResidueVector p modulus X)) →
    IsBasis (residue_field p modulus) X columns vectors first →
    IsBasis (residue_field p modulus) X columns others second
    → AreSameRows (residue_field p modulus) X columns first second

-- more vectors than columns are dependent on these columns
abbrev pub IsDependentWhenMore : Type 0 → Type 0
IsDependentWhenMore X = (p : ℕ) (modulus : IsFieldModulus p) (columns : List X)
    (vectors : List (ResidueVector p modulus X))
    → length columns < length vectors → IsDependent (residue_field p modulus) X columns vectors
