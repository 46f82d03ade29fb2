-- The matrix of a degree and its limits, from the answers of the phases.
use Rattle.std.proofs.Common.{◌≡◌, ◌≤◌, ℕ, List, [], ◌∷◌, ◌++◌, length, refl, arith}
use Rattle.free_poly.specs.declared.term.Term.{Term}
use Rattle.ideal_laws.specs.Ideal.{Ideal}
use Rattle.ideal_laws.specs.declared.limits.LimitKind.{LimitKind}
use Rattle.ideal_laws.specs.declared.limits.LimitKind.TheVariants.{Cells, Columns, Rows}
use Rattle.ideal_laws.specs.declared.limits.Limits.{Limits}
use Rattle.ideal_laws.specs.Engine.{Elements}
use Rattle.ideal_laws.specs.Quantities.{AreRows, IsFirstPassing, IsQuantity, NonePasses, words_of}
use Rattle.symbolic_prep.specs.Closed.{ClosedColumns, IsClosed, IsClosedQuantity, closing_limits}
use Rattle.back_reduce.specs.declared.problem.Problem.{Problem}
use Rattle.row_store.specs.Contested.{IsCellQuantity, IsContestedProblem}
use Rattle.degree_loop.specs.Limits.{matrix_limits}
use Rattle.degree_loop.specs.Matrix.{IsMatrix}
use Rattle.degree_loop.proofs.Asked.{first_before, first_behind, first_moved, none_moved, none_together}
use Rattle.degree_loop.proofs.DegreeClosure.{cell_quantity, closed_quantity}

-- the matrix
pub is_matrix : (ideal : Ideal) (G : List (List Term)) (d : ℕ) (rows : List (List Term)) →
    AreRows ideal G d rows → (closed : ClosedColumns) → IsClosed G (words_of rows) closed
    → (problem : Problem) → IsContestedProblem ideal.modulus closed rows d problem → IsMatrix ideal G d closed problem
is_matrix ideal G d rows are closed h problem own = record {
  rows = rows;
  are_closed = record { are_rows = are; are_columns = h.are_columns; are_reducers = h.are_reducers };
  modulus = own.modulus;
  width = own.width;
  contested = own.each;
}

module _ (ideal : Ideal) (below : Elements) (d : ℕ) (limits : Limits) where
  abbrev Q : LimitKind → ℕ → Type 0
  Q = IsQuantity ideal below d

  abbrev row_limit : List (LimitKind × ℕ)
  row_limit = (Rows, limits.rows) ∷ []

  abbrev cell_limit : List (LimitKind × ℕ)
  cell_limit = (Cells, limits.cells) ∷ []

  -- those that are asked after the rows
  abbrev later_limits : List (LimitKind × ℕ)
  later_limits = closing_limits limits ++ cell_limit

  module _ (rows : List (List Term)) (are : AreRows ideal below.elements d rows) (few : NonePasses Q row_limit) where
    -- if the rows are within their limit, what passes first in the closure of the rows passes first in the matrix
    pub close_passes : (kind : LimitKind) (value : ℕ) → IsFirstPassing (IsClosedQuantity below.elements rows) (closing_limits limits) kind
        value → IsFirstPassing Q (matrix_limits limits) kind value
    close_passes kind value h =
        first_behind Q row_limit later_limits kind value few
        (first_before Q (closing_limits limits) cell_limit kind value
        (first_moved (IsClosedQuantity below.elements rows) Q (closed_quantity ideal below d rows are) (closing_limits limits) kind value h))

    module _ (closed : ClosedColumns) (is_closed : IsClosed below.elements (words_of rows) closed)
        (within : NonePasses (IsClosedQuantity below.elements rows) (closing_limits limits)) where
      own_within : NonePasses Q (closing_limits limits)
      own_within = none_moved (IsClosedQuantity below.elements rows) Q (closed_quantity ideal below d rows are) (closing_limits limits) within

      -- if the rows and their closure are within the limits, cells that pass their limit are what passes first in the matrix
      pub cells_pass : (kind : LimitKind) (value : ℕ) → IsFirstPassing (IsCellQuantity rows closed) cell_limit kind value →
          IsFirstPassing Q (matrix_limits limits) kind value
      cells_pass kind value h =
          first_behind Q row_limit later_limits kind value few
          (first_behind Q (closing_limits limits) cell_limit kind value own_within
          (first_moved (IsCellQuantity rows closed) Q (cell_quantity ideal below d rows are closed is_closed) cell_limit kind value h))

      -- if the cells are also within their limit, no limit of the matrix is passed
      pub matrix_within : NonePasses (IsCellQuantity rows closed) cell_limit → NonePasses Q (matrix_limits limits)
      matrix_within cells =
          none_together Q row_limit later_limits few
          (none_together Q (closing_limits limits) cell_limit own_within
          (none_moved (IsCellQuantity rows closed) Q (cell_quantity ideal below d rows are closed is_closed) cell_limit cells))

-- the columns are within their limit, where each quantity is one number
pub few_columns : (ideal : Ideal) (below : Elements) (d : ℕ) → ((kind : LimitKind) (q r : ℕ) → IsQuantity ideal below d kind q →
    IsQuantity ideal below d kind r → q ≡ r) → (limits : Limits)
    → (rows : List (List Term)) → AreRows ideal below.elements d rows → (closed : ClosedColumns) → IsClosed below.elements (words_of rows) closed
    → NonePasses (IsClosedQuantity below.elements rows) (closing_limits limits) → length closed.columns ≤ limits.columns
few_columns ideal below d one limits rows are closed h within =
    let own : IsQuantity ideal below d Columns (length closed.columns) = (rows, closed.columns, are, h.are_columns, refl) in
    let other = closed_quantity ideal below d rows are Columns within.0.0 within.0.1 in
    let same : length closed.columns ≡ within.0.0 = one Columns (length closed.columns) within.0.0 own other in
    omega (arith, same, within.0.2)
