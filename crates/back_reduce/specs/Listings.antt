-- The residues of a row that are not 0, with their columns.
use Rattle.std.specs.Prelude.{ℕ, zero, suc, List, [], ◌∷◌, ◌++◌}
use Rattle.back_reduce.specs.declared.entry.Entry.{Entry}

-- the residue at a column, where it is not 0
abbrev pub entry_at : ℕ → ℕ → List Entry
entry_at column zero = []
entry_at column (suc r) = record { column = column; residue = suc r } ∷ []

-- those of the columns from one on
abbrev pub entries_from : ℕ → List ℕ → List Entry
entries_from column [] = []
entries_from column (r ∷ row) = entry_at column r ++ entries_from (suc column) row

abbrev pub entries_of : List ℕ → List Entry
entries_of row = entries_from 0 row
