-- What the calls on the closure of a degree ask of its rows, columns and reducers.
use Rattle.std.proofs.Common.{◌≡◌, ◌*◌, ℕ, List, All, length, ap, ◌∙◌}
use Rattle.std.specs.List.{Contains}
use Rattle.words.specs.Words.{IsOver, degree_of}
use Rattle.words.proofs.Degrees.{words_of_degree-says}
use Rattle.words.proofs.Members.{All-from_members}
use Rattle.free_poly.specs.declared.term.Term.{Term}
use Rattle.free_poly.specs.Terms.{HasDegree, HasResidues, UsesLetters}
use Rattle.ideal_laws.specs.Ideal.{Ideal}
use Rattle.ideal_laws.specs.declared.limits.LimitKind.{LimitKind}
use Rattle.ideal_laws.specs.declared.limits.LimitKind.TheVariants.{PlainWords, Rows, Columns, Entries, Cells, Terms, NormalWords}
use Rattle.ideal_laws.specs.Closure.{AreColumns}
use Rattle.ideal_laws.specs.Engine.{Elements}
use Rattle.ideal_laws.specs.Laws.{IsSetting}
use Rattle.ideal_laws.specs.Overlaps.{AreLower}
use Rattle.ideal_laws.specs.Quantities.{AreRows, IsQuantity, reducers_in, words_of}
use Rattle.symbolic_prep.specs.Closed.{ClosedColumns, IsClosed, IsClosedQuantity}
use Rattle.row_laws.proofs.ClosedColumns.{column_says, reducer_says, row_column}
use Rattle.row_laws.proofs.DegreeRows.{member_word, row_member}
use Rattle.row_laws.proofs.Reducers.{reducer_inside}
use Rattle.row_store.specs.Contested.{IsCellQuantity, IsOnColumns}
use Rattle.degree_loop.proofs.Contested.{length-contested}

module _ (ideal : Ideal) (st : IsSetting ideal) (d : ℕ) (G : List (List Term)) (lower : AreLower ideal d G) where
  module _ (rows : List (List Term)) (are : AreRows ideal G d rows) where
    term_says : (f : List Term) → Contains rows f → (t : Term) → Contains f t → IsOver (length ideal.weights) t.word × (degree_of ideal.weights t.word ≡ d)
    term_says f m t n = words_of_degree-says ideal.weights st.are_weights d t.word
        (member_word ideal st d f (row_member ideal st d G lower rows are f m) t n)

    -- all terms of the rows have the degree
    pub rows_degree : All (HasDegree ideal.weights d) rows
    rows_degree = All-from_members (HasDegree ideal.weights d) rows (λ f m. All-from_members (λ t. degree_of ideal.weights t.word ≡ d) f
        (λ t n. (term_says f m t n).1))

    -- all letters of the rows are letters of the ideal
    pub rows_letters : All (UsesLetters (length ideal.weights)) rows
    rows_letters = All-from_members (UsesLetters (length ideal.weights)) rows
        (λ f m. All-from_members (λ t. IsOver (length ideal.weights) t.word) f (λ t n. (term_says f m t n).0))

    -- all coefficients of the rows are residues by the modulus
    pub rows_residues : All (HasResidues ideal.modulus) rows
    rows_residues = All-from_members (HasResidues ideal.modulus) rows (λ f m. (row_member ideal st d G lower rows are f m).residues)

    module _ (columns : List (List ℕ)) (are_columns : AreColumns G (words_of rows) columns) where
      -- all words of the rows are columns of the closure
      pub rows_on_columns : All (IsOnColumns columns) rows
      rows_on_columns = All-from_members (IsOnColumns columns) rows
          (λ f m. All-from_members (λ t. Contains columns t.word) f (row_column ideal st d G lower rows are columns are_columns f m))

    -- all coefficients of the reducers are residues by the modulus
    pub reducer_residues : (closed : ClosedColumns) → IsClosed G (words_of rows) closed → All (HasResidues ideal.modulus) (reducers_in closed.reducers)
    reducer_residues closed h = All-from_members (HasResidues ideal.modulus) (reducers_in closed.reducers)
        (λ g m. let r = reducer_says G closed.columns closed.reducers h.are_reducers g m in
        let says = column_says ideal st d G lower rows are closed.columns h.are_columns r.0 r.1 in
        (reducer_inside ideal st d G lower r.0 g says.0 says.1 r.2).element.residues)

module _ (ideal : Ideal) (below : Elements) (d : ℕ) (rows : List (List Term)) (are : AreRows ideal below.elements d rows) where
  -- what is asked of the closure of the rows is a quantity of the degree
  pub closed_quantity : (kind : LimitKind) (q : ℕ) → IsClosedQuantity below.elements rows kind q → IsQuantity ideal below d kind q
  closed_quantity PlainWords q h = absurd h
  closed_quantity Rows q h = absurd h
  closed_quantity Columns q h = (rows, h.0, are, h.1, h.2)
  closed_quantity Entries q h = (
    rows,
    h.0.columns,
    h.0.reducers,
    record { are_rows = are; are_columns = h.1.are_columns; are_reducers = h.1.are_reducers },
    h.2,
  )
  closed_quantity Cells q h = absurd h
  closed_quantity Terms q h = absurd h
  closed_quantity NormalWords q h = absurd h

  -- and so are the cells
  pub cell_quantity : (closed : ClosedColumns) → IsClosed below.elements (words_of rows) closed → (kind : LimitKind) (q : ℕ) →
      IsCellQuantity rows closed kind q → IsQuantity ideal below d kind q
  cell_quantity closed h PlainWords q e = absurd e
  cell_quantity closed h Rows q e = absurd e
  cell_quantity closed h Columns q e = absurd e
  cell_quantity closed h Entries q e = absurd e
  cell_quantity closed h Cells q e = (
    rows,
    closed.columns,
    closed.reducers,
    record { are_rows = are; are_columns = h.are_columns; are_reducers = h.are_reducers },
    e ∙ ap (λ (n : ℕ). length rows * n) (length-contested below.elements closed.columns closed.reducers h.are_reducers),
  )
  cell_quantity closed h Terms q e = absurd e
  cell_quantity closed h NormalWords q e = absurd e
