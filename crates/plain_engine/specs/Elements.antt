-- The elements among the rows of an echelon form.
use Rattle.std.specs.Prelude.{ℕ, ◌≡◌, ◌≤◌, ◌↔◌, List, [], AllPairs, Contains, length, slice_index_or}
use Rattle.free_poly.specs.declared.term.Term.{Term}
use Rattle.free_poly.specs.Poly.{element_on}
use Rattle.ideal_laws.specs.Basis.{HasGreaterLead}
use Rattle.ideal_laws.specs.Closure.{IsNormal}
use Rattle.back_reduce.specs.Entries.{IsLead}

-- the row leads at a column with a normal word
abbrev pub HasNormalLead : List (List ℕ) → List (List Term) → List ℕ → Type 0
HasNormalLead columns G row = (c : ℕ) → IsLead row c → IsNormal G (slice_index_or columns c [])

-- the element of a row comes before that of another
abbrev pub StandsAbove : List (List ℕ) → List ℕ → List ℕ → Type 0
StandsAbove columns row other = HasGreaterLead (element_on columns row) (element_on columns other)

-- exactly the elements of the rows with a normal leading word, which fall where those of all rows do
pub record AreElements (columns : List (List ℕ)) (G : List (List Term)) (rows : List (List ℕ))
    (elements : List (List Term)) : Type 0 where
  pub exactly : (f : List Term) → Contains elements f
      ↔ ((row : List ℕ) × Contains rows row × HasNormalLead columns G row × (f ≡ element_on columns row))
  pub falling : AllPairs (StandsAbove columns) rows → AllPairs HasGreaterLead elements
  pub few : length elements ≤ length rows
