-- What the matrix of a degree gives.
use Rattle.std.specs.Prelude.{ℕ, List, Contains, Option, length, map}
use Rattle.free_poly.specs.declared.term.Term.{Term}
use Rattle.ideal_laws.specs.Basis.{IsReducedBasis}
use Rattle.ideal_laws.specs.Ideal.{Ideal}
use Rattle.ideal_laws.specs.Laws.{IsOne, IsSetting}
use Rattle.ideal_laws.specs.Overlaps.{AreLower}
use Rattle.ideal_laws.specs.Quantities.{AreClosed, contested_words}
use Rattle.back_reduce.specs.Rref.{IsRref}
use Rattle.row_laws.specs.Contested.{AreContestedRows, IsContestedRow}
use Rattle.free_poly.specs.Poly.{element_on}

-- over the reduced elements of lower degrees, each row of a degree leaves exactly one list of residues at the
-- contested columns
abbrev pub LeavesOneRow : Type 0
LeavesOneRow = (ideal : Ideal) → IsSetting ideal → (d : ℕ) (G : List (List Term)) → AreLower ideal d G
    → (rows : List (List Term)) (columns : List (List ℕ)) (reducers : List (Option (List Term))) →
    AreClosed ideal G d rows columns reducers
    → (row : List Term) → Contains rows row → IsOne (IsContestedRow ideal.modulus columns reducers row)

-- over the reduced elements of lower degrees, the elements of the reduced row echelon form of the contested rows are
-- the reduced basis of the degree
abbrev pub RowsGiveBasis : Type 0
RowsGiveBasis = (ideal : Ideal) → IsSetting ideal → (d : ℕ) (G : List (List Term)) → AreLower ideal d G
    → (rows : List (List Term)) (columns : List (List ℕ)) (reducers : List (Option (List Term))) →
    AreClosed ideal G d rows columns reducers
    → (cells : List (List ℕ)) → AreContestedRows ideal.modulus columns reducers rows cells
    → (echelon : List (List ℕ)) → IsRref ideal.modulus (length (contested_words columns reducers)) cells echelon
    → IsReducedBasis ideal d (map (element_on (contested_words columns reducers)) echelon)
