-- What the closure tells of a column, as entries.
use Rattle.std.proofs.Common.{◌≡◌, ◌<◌, ℕ, List, None, Some, get_or, length, map, sym, ◌∙◌, arith}
use Rattle.std.proofs.lemmas.List.{length-map}
use Rattle.free_poly.specs.declared.term.Term.{Term}
use Rattle.symbolic_prep.specs.Closed.{ClosedColumns}
use Rattle.row_store.specs.Entries.{entry_of, reducer_at, reducer_over, reducers_over, AreColumnLists, IsColumnList, Reducer}
use Rattle.row_store.proofs.Tails.{reducer_none, reducer_some}

-- the reducer with these terms
abbrev pub over : ClosedColumns → List Term → Reducer
over closed f = record { entries = map (entry_of closed.columns) f }

-- as many reducers as sums
reducers_size : (p n : ℕ) (closed : ClosedColumns) → AreColumnLists p n (reducers_over closed) → length closed.reducers ≡ n
reducers_size p n closed h = sym (length-map closed.reducers (reducer_over closed.columns)) ∙ h.size

-- a column with a reducer has it as entries
pub found : (p n : ℕ) (closed : ClosedColumns) (at : ℕ) (f : List Term) → AreColumnLists p n (reducers_over closed) → at < n →
    get_or closed.reducers at None ≡ Some f → reducer_at (reducers_over closed) at ≡ Some (over closed f)
found p n closed at f h lt is = reducer_some closed at f (omega (arith, lt, reducers_size p n closed h)) is

-- a column without a reducer has none as entries
pub absent : (p n : ℕ) (closed : ClosedColumns) (at : ℕ) → AreColumnLists p n (reducers_over closed) → at < n →
    get_or closed.reducers at None ≡ None → reducer_at (reducers_over closed) at ≡ None
absent p n closed at h lt is = reducer_none closed at (omega (arith, lt, reducers_size p n closed h)) is

-- the entries of the reducer of a column begin with 1 at this column
pub list_at : (p n : ℕ) (closed : ClosedColumns) (at : ℕ) (f : List Term) → AreColumnLists p n (reducers_over closed) → at < n →
    get_or closed.reducers at None ≡ Some f → IsColumnList p n at (map (entry_of closed.columns) f)
list_at p n closed at f h lt is = h.each at (over closed f) lt (found p n closed at f h lt is)
