-- The contested columns of a degree, and the rows over them.
use Rattle.std.specs.Prelude.{ℕ, ◌-◌, List, ◌++◌, Contains, Option, length}
use Rattle.std.specs.List.{AllZip}
use Rattle.free_poly.specs.declared.term.Term.{Term}
use Rattle.free_poly.specs.Poly.{element_on}
use Rattle.free_poly.specs.Terms.{scaled}
use Rattle.ideal_laws.specs.Laws.{IsSpanned}
use Rattle.ideal_laws.specs.Quantities.{contested_words, reducers_in}
use Rattle.back_reduce.specs.Rows.{IsRow}

-- a residue at each contested column; the row less the element with these is a sum of multiples of reducers
pub record IsContestedRow (p : ℕ) (columns : List (List ℕ)) (reducers : List (Option (List Term))) (row : List Term)
    (residues : List ℕ) : Type 0 where
  pub is_row : IsRow p (length (contested_words columns reducers)) residues
  pub rest : IsSpanned p (Contains (reducers_in reducers))
      (row ++ scaled (p - 1) (element_on (contested_words columns reducers) residues))

-- what each row leaves at the contested columns
abbrev pub AreContestedRows : ℕ → List (List ℕ) → List (Option (List Term)) → List (List Term) → List (List ℕ) → Type 0
AreContestedRows p columns reducers rows cells = AllZip (IsContestedRow p columns reducers) rows cells
