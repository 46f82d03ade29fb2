-- The element of a row of residues over falling words.
use Rattle.std.specs.Prelude.{ℕ, List, [], slice_index_or}
use Rattle.free_poly.specs.declared.term.Term.{Term}
use Rattle.back_reduce.specs.declared.entry.Entry.{Entry}

-- the word of an entry's column with its residue
abbrev pub term_in : List (List ℕ) → Entry → Term
term_in columns entry = record { word = slice_index_or columns entry.column []; coefficient = entry.residue }
