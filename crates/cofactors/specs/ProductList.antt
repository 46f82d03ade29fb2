-- Products of relations with coefficients, each triple of two words and a relation at most once.
use Rattle.std.specs.Prelude.{ℕ, ◌≡◌, ◌+◌, ◌-◌, ◌<◌, ◌≤◌, ◌⊎◌, zero, suc}
use Rattle.std.specs.Prelude.{List, [], ◌∷◌, ◌++◌, All, AllPairs, length, map, slice_index_or}
use Rattle.std.specs.List.{flat_map}
use Rattle.words.specs.Words.{IsOver, words_of_degree}
use Rattle.words.specs.Order.{IsGreater}
use Rattle.free_poly.specs.declared.term.Term.{Term}
use Rattle.free_poly.specs.Terms.{HasDegree, IsSame, product, scaled}
use Rattle.ideal_laws.specs.Ideal.{Ideal}
use Rattle.ideal_laws.specs.Kept.{lead_degree}
use Rattle.cofactors.specs.declared.product.Product.{Product}

-- the relation of this number, counted from 1
abbrev pub relation_at : List (List Term) → ℕ → List Term
relation_at relations i = slice_index_or relations (i - 1) []

-- u * r * v
abbrev pub triple_terms : List (List Term) → Product → List Term
triple_terms relations q = product q.left (relation_at relations q.relation) q.right

-- a * u * r * v
abbrev pub product_terms : List (List Term) → Product → List Term
product_terms relations q = scaled q.coefficient (triple_terms relations q)

-- a residue other than 0, the number of a relation, and words round it, of this degree together
pub record IsProduct (ideal : Ideal) (d : ℕ) (q : Product) : Type 0 where
  pub other : 0 < q.coefficient
  pub residue : q.coefficient < ideal.modulus
  pub from : 0 < q.relation
  pub upto : q.relation ≤ length ideal.relations
  pub left_over : IsOver (length ideal.weights) q.left
  pub right_over : IsOver (length ideal.weights) q.right
  pub degree : HasDegree ideal.weights d (triple_terms ideal.relations q)

-- by rising number of the relation, then by falling word before it, and then by falling word behind it
abbrev pub StandsBefore : List ℕ → Product → Product → Type 0
StandsBefore weights q r =
    (q.relation < r.relation)
    ⊎ ((q.relation ≡ r.relation)
    × (IsGreater weights q.left r.left ⊎ ((q.left ≡ r.left) × IsGreater weights q.right r.right)))

-- products of degree d in their order, so that no triple stands twice
pub record IsProductList (ideal : Ideal) (d : ℕ) (products : List Product) : Type 0 where
  pub each : All (IsProduct ideal d) products
  pub ordered : AllPairs (StandsBefore ideal.weights) products

-- f is t and the sum of the list
abbrev pub IsSumWith : ℕ → List (List Term) → List Term → List Term → List Product → Type 0
IsSumWith p relations f t products = IsSame p f (t ++ flat_map (product_terms relations) products)

-- all numbers below n, falling
abbrev pub numbers_below : ℕ → List ℕ
numbers_below zero = []
numbers_below (suc n) = n ∷ numbers_below n

-- a triple, which is a product that has the coefficient 0 as yet
abbrev pub triple : ℕ → List ℕ → List ℕ → Product
triple i u v = record { coefficient = 0; left = u; relation = i; right = v }

-- the triples of a relation with this word before it and words of degree b behind it
abbrev pub right_triples : List ℕ → ℕ → ℕ → List ℕ → List Product
right_triples weights i b u = map (triple i u) (words_of_degree weights b)

-- the triples of a relation with words of n together round it, of which those before it have degree a
abbrev pub round_triples : List ℕ → ℕ → ℕ → ℕ → List Product
round_triples weights i n a = flat_map (right_triples weights i (n - a)) (words_of_degree weights a)

-- the triples of degree d of the relation of this number, by the degree of the word before it
abbrev pub triples_at : List ℕ → ℕ → ℕ → List Term → List Product
triples_at weights d i r =
    flat_map (round_triples weights i (d - lead_degree weights r)) (numbers_below (d + 1 - lead_degree weights r))

-- the triples of degree d of relations that are numbered from i on
abbrev pub triples_from : List ℕ → ℕ → ℕ → List (List Term) → List Product
triples_from weights d i [] = []
triples_from weights d i (r ∷ rs) = triples_at weights d i r ++ triples_from weights d (suc i) rs

-- all triples of degree d, in the order of a product list
abbrev pub triples : List ℕ → List (List Term) → ℕ → List Product
triples weights relations d = triples_from weights d 1 relations
