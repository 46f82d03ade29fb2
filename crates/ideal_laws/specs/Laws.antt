-- Laws of ideals over a field of residues.
use Rattle.std.specs.Prelude.{ℕ, ◌≡◌, ◌≢◌, ◌↔◌, ◌⊎◌, ◌<◌, ◌≤◌, ◌-◌, List, [], ◌∷◌, All, AllPairs, Contains, length}
use Rattle.std.specs.List.{flat_map}
use Rattle.words.specs.Words.{AreWeights, IsFactor, IsOver, degree_of, weight_of, words_of_degree}
use Rattle.field_table.specs.Residues.{IsFieldModulus}
use Rattle.free_poly.specs.declared.term.Term.{Term}
use Rattle.free_poly.specs.Terms.{HasDegree, HasOneDegree, HasResidues, IsSame, UsesLetters, product, scaled}
use Rattle.free_poly.specs.Poly.{IsPolynomial}
use Rattle.ideal_laws.specs.Ideal.{Ideal, IsElement, IsInIdeal, IsLeadingWord, IsMinimal}
use Rattle.ideal_laws.specs.Basis.{IsReducedBasis}
use Rattle.ideal_laws.specs.Dimension.{IsDimension, IsHilbertCoefficient}

-- a relation of a presentation: a polynomial other than 0 over the letters and residues, of one degree, which is 1 or
-- more
pub record IsRelation (p : ℕ) (weights : List ℕ) (r : List Term) : Type 0 where
  pub form : IsPolynomial r
  pub residues : HasResidues p r
  pub letters : UsesLetters (length weights) r
  pub one_degree : HasOneDegree weights r
  pub other : r ≢ []
  pub degree : All (λ t. t.word ≢ []) r

-- what the laws are about: a field of residues, weights, and relations
pub record IsSetting (ideal : Ideal) : Type 0 where
  pub modulus : IsFieldModulus ideal.modulus
  pub are_weights : AreWeights ideal.weights
  pub are_relations : All (IsRelation ideal.modulus ideal.weights) ideal.relations

-- exactly one value has P
pub record IsOne {X : Type 0} (P : X → Type 0) : Type 0 where
  pub value : X
  pub holds : P value
  pub only : (x : X) → P x → x ≡ value

-- each degree has exactly one reduced basis
abbrev pub HasOneBasis : Type 0
HasOneBasis = (ideal : Ideal) → IsSetting ideal → (d : ℕ) → IsOne (IsReducedBasis ideal d)

-- the words of a list are exactly the leading words of a degree, each once
pub record AreLeadingWords (ideal : Ideal) (d : ℕ) (words : List (List ℕ)) : Type 0 where
  pub exactly : (w : List ℕ) → Contains words w ↔ IsLeadingWord ideal d w
  pub apart : AllPairs (λ v w. v ≢ w) words

-- exactly one number is the dimension, and it is the number of leading words; so the coefficient is the number of the
-- other words
pub record HasDimension (ideal : Ideal) (d : ℕ) : Type 0 where
  pub leading : List (List ℕ)
  pub others : List (List ℕ)
  pub are_leading : AreLeadingWords ideal d leading
  pub split : (w : List ℕ) → Contains (words_of_degree ideal.weights d) w ↔ (Contains leading w ⊎ Contains others w)
  pub are_others : (w : List ℕ) → Contains others w → IsLeadingWord ideal d w → ⊥
  pub apart : AllPairs (λ v w. v ≢ w) others
  pub dimension : (k : ℕ) → IsDimension ideal d k ↔ (k ≡ length leading)
  pub coefficient : (h : ℕ) → IsHilbertCoefficient ideal d h ↔ (h ≡ length others)

abbrev pub HasOneDimension : Type 0
HasOneDimension = (ideal : Ideal) → IsSetting ideal → (d : ℕ) → HasDimension ideal d

-- a word is a leading word exactly where some factor of it is minimal
abbrev pub IsFactorLaw : Type 0
IsFactorLaw = (ideal : Ideal) → IsSetting ideal → (w : List ℕ) → IsOver (length ideal.weights) w
    → IsLeadingWord ideal (degree_of ideal.weights w) w ↔ ((v : List ℕ) × IsFactor v w × IsMinimal ideal v)

-- a neighbour of degree d: a letter before or behind a member of the degree that is left, or a relation of degree d
pub data IsNeighbour (ideal : Ideal) (d : ℕ) : List Term → Type 0 where
  before : (x : ℕ) (f : List Term) → x < length ideal.weights → weight_of ideal.weights x ≤ d →
      IsInIdeal ideal (d - weight_of ideal.weights x) f
      → IsNeighbour ideal d (product (x ∷ []) f [])
  behind : (x : ℕ) (f : List Term) → x < length ideal.weights → weight_of ideal.weights x ≤ d →
      IsInIdeal ideal (d - weight_of ideal.weights x) f
      → IsNeighbour ideal d (product [] f (x ∷ []))
  relation : (r : List Term) → Contains ideal.relations r → HasDegree ideal.weights d r → IsNeighbour ideal d r

-- a residue times an element
pub record Part : Type 0 where
  pub factor : ℕ
  pub element : List Term

abbrev pub part_terms : Part → List Term
part_terms c = scaled c.factor c.element

-- f is a sum of multiples of elements with P
pub record IsSpanned (p : ℕ) (P : List Term → Type 0) (f : List Term) : Type 0 where
  pub parts : List Part
  pub each : All (λ c. (c.factor < p) × P c.element) parts
  pub sum : IsSame p f (flat_map part_terms parts)

-- a degree of 1 or more is spanned by its neighbours
abbrev pub IsNeighbourSpan : Type 0
IsNeighbourSpan = (ideal : Ideal) → IsSetting ideal → (d : ℕ) → 0 < d →
    (f : List Term) → IsElement ideal.modulus ideal.weights d f
    → IsInIdeal ideal d f ↔ IsSpanned ideal.modulus (IsNeighbour ideal d) f
