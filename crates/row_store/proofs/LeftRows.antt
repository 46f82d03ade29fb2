-- What a row leaves beside its places, as the row of the problem.
use Rattle.std.proofs.Common.{◌≡◌, ℕ, List, [], length, sym, ap, ◌∙◌, subst}
use Rattle.std.proofs.lemmas.List.{length-map}
use Rattle.field_table.specs.Residues.{IsFieldModulus}
use Rattle.free_poly.specs.declared.term.Term.{Term}
use Rattle.free_poly.specs.Terms.{total_at}
use Rattle.ideal_laws.specs.Quantities.{contested_words}
use Rattle.row_laws.specs.Contested.{IsContestedRow}
use Rattle.symbolic_prep.specs.Closed.{ClosedColumns}
use Rattle.row_store.specs.declared.left.Left.{Left}
use Rattle.row_store.specs.Contested.{IsOnColumns, IsReducing, MayReduce}
use Rattle.row_store.specs.Entries.{contested_residues, dense_of, reducers_over, AreColumnLists, IsReducerOf}
use Rattle.row_store.specs.Sums.{cells_of, contested_count, IsLeft}
use Rattle.row_store.proofs.ColumnLists.{column_lists}
use Rattle.row_store.proofs.ContestedColumns.{contested-size}
use Rattle.std.proofs.lemmas.Slice.Zip.{AllZip-long}
use Rattle.row_store.proofs.Places.{count-size}
use Rattle.row_store.proofs.RowsLeft.{row_left}
use Rattle.row_store.proofs.Tails.{reducers_are}

module _ (p : ℕ) (closed : ClosedColumns) (reducing : IsReducing p closed) where
  abbrev columns : List (List ℕ)
  columns = closed.columns

  -- as many places as contested columns
  pub width : (words : List (List ℕ)) → words ≡ contested_words closed.columns closed.reducers → length words ≡ contested_count (reducers_over closed)
  width words is =
      let rs = reducers_over closed in
      let dense = dense_of columns [] in
      let long : length dense ≡ length columns = length-map columns (λ w. total_at [] w) in
      let entries = reducers_are p closed reducing in
      let size : length rs ≡ length columns = sym (AllZip-long (IsReducerOf columns) rs closed.reducers entries)
      ∙ AllZip-long (MayReduce p columns) columns closed.reducers reducing.reducers in
      ap length (is) ∙ sym (contested-size columns columns rs closed.reducers dense entries long size) ∙ count-size rs dense (long ∙ sym size)

  -- the reducers as lists of columns
  pub lists : (n : ℕ) → n ≡ length closed.columns → AreColumnLists p n (reducers_over closed)
  lists n long = subst (λ (n : ℕ). AreColumnLists p n (reducers_over closed)) (sym long)
      (column_lists columns reducing.falling p (reducers_over closed) closed.reducers reducing.reducers (reducers_are p closed reducing))

  -- what a row leaves is its row of the problem
  pub left_row : IsFieldModulus p → (row : List Term) (left : Left) (words : List (List ℕ)) → IsOnColumns closed.columns row
      → words ≡ contested_words closed.columns closed.reducers → IsLeft p (reducers_over closed) (dense_of closed.columns row) left
      → IsContestedRow p closed.columns closed.reducers row (cells_of (length words) left)
  left_row modulus row left words on is h =
      let whole : cells_of (length words) left ≡ contested_residues (reducers_over closed) h.row =
      ap (λ (m : ℕ). cells_of m left) (width words is) ∙ h.is in
      subst (IsContestedRow p columns closed.reducers row) (sym whole)
      (row_left p modulus columns reducing.falling closed.reducers (reducers_over closed) reducing.reducers
      (reducers_are p closed reducing) row h.row on h.cleared)
