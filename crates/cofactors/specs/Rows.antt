-- Rows of an elimination: elements, each with its factors over the elements of which it was made.
use Rattle.std.specs.Prelude.{ℕ, ◌≡◌, ◌<◌, ◌==◌, if◌then◌else◌, List, [], ◌∷◌, ◌++◌, All, AllPairs, Contains, length}
use Rattle.std.specs.Prelude.{slice_index_or}
use Rattle.std.specs.List.{flat_map}
use Rattle.std.specs.Ordering.{nat_cmp}
use Rattle.std.specs.declared.cmp.Ordering.{Ordering}
use Rattle.std.specs.declared.cmp.Ordering.TheVariants.{Less, Greater}
use Rattle.field_table.specs.Residues.{negative_of}
use Rattle.words.specs.Order.{IsLetterwiseGreater}
use Rattle.free_poly.specs.declared.term.Term.{Term}
use Rattle.free_poly.specs.Poly.{IsMonic, IsPolynomial, lead_or_none}
use Rattle.free_poly.specs.Terms.{HasResidues, IsSame, scaled, total_at}
use Rattle.cofactors.specs.declared.factors.Factor.{Factor}
use Rattle.cofactors.specs.declared.product.Product.{Product}
use Rattle.cofactors.specs.declared.row.Row.{Row}
use Rattle.cofactors.specs.ProductList.{triple}

-- residues at rising places
pub record AreFactors (p : ℕ) (factors : List Factor) : Type 0 where
  pub residues : All (λ f. f.residue < p) factors
  pub rising : AllPairs (λ f g. f.place < g.place) factors

-- a factor at this place, and none where its residue is 0
abbrev pub factor_at : ℕ → ℕ → List Factor
factor_at place residue = if residue == 0 then [] else (record { place = place; residue = residue } ∷ [])

-- the order of the first places, where a list with nothing left has the greater
abbrev pub firsts_cmp : List Factor → List Factor → Ordering
firsts_cmp fs [] = Less
firsts_cmp [] (g ∷ gs) = Greater
firsts_cmp (f ∷ fs) (g ∷ gs) = nat_cmp f.place g.place

-- all places are below n
abbrev pub HasPlaces : ℕ → List Factor → Type 0
HasPlaces n factors = All (λ f. f.place < n) factors

-- the sum of the elements at the places, each times its factor
abbrev pub combined : List (List Term) → List Factor → List Term
combined fs factors = flat_map (λ f. scaled f.residue (slice_index_or fs f.place [])) factors

-- a polynomial with residues, and factors
pub record IsRow (p : ℕ) (row : Row) : Type 0 where
  pub form : IsPolynomial row.element
  pub residues : HasResidues p row.element
  pub factors : AreFactors p row.factors

-- after is before and a times the leader, and so are its factors over any elements
pub record IsPlusTimes (p a : ℕ) (leader before after : Row) : Type 0 where
  pub element : IsSame p after.element (before.element ++ scaled a leader.element)
  pub factors : (fs : List (List Term))
      → IsSame p (combined fs after.factors) (combined fs before.factors ++ scaled a (combined fs leader.factors))
  pub places : (n : ℕ) → HasPlaces n leader.factors → HasPlaces n before.factors → HasPlaces n after.factors

-- the row is the base and the sum of the elements by its factors
pub record IsTracked (p : ℕ) (fs : List (List Term)) (base : List Term) (row : Row) : Type 0 where
  pub places : HasPlaces (length fs) row.factors
  pub sum : IsSame p row.element (base ++ combined fs row.factors)

abbrev pub lead_word : Row → List ℕ
lead_word row = lead_or_none row.element

-- monic rows with falling leading words
pub record AreLeaders (p : ℕ) (rows : List Row) : Type 0 where
  pub each : All (IsRow p) rows
  pub monic : All (λ r. IsMonic r.element) rows
  pub falling : AllPairs (λ r s. IsLetterwiseGreater (lead_word r) (lead_word s)) rows

-- f is 0 at the leading words of the rows
abbrev pub IsZeroAtLeads : List Row → List Term → Type 0
IsZeroAtLeads rows f = All (λ r. total_at f (lead_word r) ≡ 0) rows

-- f is g and a sum of multiples of the rows
pub record IsPlusSpan (p : ℕ) (rows : List Row) (f g : List Term) : Type 0 where
  pub parts : List (ℕ × Row)
  pub among : All (λ c. Contains rows c.1) parts
  pub sum : IsSame p f (g ++ flat_map (λ c. scaled c.0 c.1.element) parts)

-- the triple at the place of a factor, with the negative of this, and nothing where it is 0
abbrev pub negative_at : ℕ → List Product → Factor → List Product
negative_at p triples f =
    let q = slice_index_or triples f.place (triple 0 [] []) in
    if f.residue == 0 then [] else (record q { coefficient = negative_of p f.residue } ∷ [])

-- the products that take the factors away
abbrev pub negative_products : ℕ → List Product → List Factor → List Product
negative_products p triples factors = flat_map (negative_at p triples) factors
