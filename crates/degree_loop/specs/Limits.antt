-- The limits of a matrix engine, in the order in which they are asked.
use Rattle.std.specs.Prelude.{ℕ, List, [], ◌∷◌}
use Rattle.ideal_laws.specs.declared.limits.LimitKind.{LimitKind}
use Rattle.ideal_laws.specs.declared.limits.LimitKind.TheVariants.{Cells, Columns, Entries, Rows, Terms}
use Rattle.ideal_laws.specs.declared.limits.Limits.{Limits}

-- those on the matrix of a degree
abbrev pub matrix_limits : Limits → List (LimitKind × ℕ)
matrix_limits limits = (Rows, limits.rows) ∷ (Columns, limits.columns) ∷ (Entries, limits.entries)
    ∷ (Cells, limits.cells) ∷ []

-- and that on the terms of all elements
abbrev pub engine_limits : Limits → List (LimitKind × ℕ)
engine_limits limits = (Rows, limits.rows) ∷ (Columns, limits.columns) ∷ (Entries, limits.entries)
    ∷ (Cells, limits.cells) ∷ (Terms, limits.terms) ∷ []
