-- Rows in parts that are dealt out to hands in turn.
use Rattle.std.specs.Prelude.{ℕ, ◌+◌, ◌*◌, ◌/◌, ◌%◌, List, drop, take}
use Rattle.free_poly.specs.declared.term.Term.{Term}

-- where the cell of a table with this width stands once rows and columns are turned over
abbrev pub turned : ℕ → ℕ → ℕ → ℕ
turned width height at = at % width * height + at / width

-- the rows of a part
abbrev pub part_of : ℕ → List (List Term) → ℕ → List (List Term)
part_of size rows part = take size (drop (part * size) rows)
