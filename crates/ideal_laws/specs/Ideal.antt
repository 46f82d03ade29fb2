-- The two-sided ideal of some relations, degree by degree, over the residues of p and letters with weights.
use Rattle.std.specs.Prelude.{ℕ, ◌≡◌, ◌<◌, List, All, Contains, length, Some}
use Rattle.std.specs.List.{flat_map}
use Rattle.words.specs.Words.{IsOver, IsProperFactor, degree_of}
use Rattle.free_poly.specs.declared.term.Term.{Term}
use Rattle.free_poly.specs.Terms.{HasDegree, HasResidues, IsSame, UsesLetters, product, scaled}
use Rattle.free_poly.specs.Poly.{IsPolynomial, lead_of}
use Rattle.ideal_laws.specs.declared.presentation.Presentation.{Presentation}

-- a modulus, the weights of the letters, and relations
pub record Ideal : Type 0 where
  pub modulus : ℕ
  pub weights : List ℕ
  pub relations : List (List Term)

-- the ideal of relations in letters of these weights, over the residues of p
abbrev pub ideal_over : ℕ → List ℕ → List (List Term) → Ideal
ideal_over p weights relations = record { modulus = p; weights = weights; relations = relations }

-- the ideal of a presentation over the residues of p
abbrev pub ideal_of : ℕ → Presentation → Ideal
ideal_of p presentation = ideal_over p presentation.alphabet.weights presentation.relations

-- a * u * r * v
pub record Multiple : Type 0 where
  pub factor : ℕ
  pub left : List ℕ
  pub relation : List Term
  pub right : List ℕ

abbrev pub terms_of : Multiple → List Term
terms_of m = scaled m.factor (product m.left m.relation m.right)

-- a residue, a relation, and two words round it, of this degree together
pub record IsMultiple (ideal : Ideal) (d : ℕ) (m : Multiple) : Type 0 where
  pub residue : m.factor < ideal.modulus
  pub left_over : IsOver (length ideal.weights) m.left
  pub right_over : IsOver (length ideal.weights) m.right
  pub among : Contains ideal.relations m.relation
  pub degree : HasDegree ideal.weights d (product m.left m.relation m.right)

-- an element of degree d: residues other than 0 at words of this degree
pub record IsElement (p : ℕ) (weights : List ℕ) (d : ℕ) (f : List Term) : Type 0 where
  pub form : IsPolynomial f
  pub residues : HasResidues p f
  pub letters : UsesLetters (length weights) f
  pub degree : HasDegree weights d f

-- f is the sum of some multiples of relations
pub record IsInIdeal (ideal : Ideal) (d : ℕ) (f : List Term) : Type 0 where
  pub element : IsElement ideal.modulus ideal.weights d f
  pub multiples : List Multiple
  pub each : All (IsMultiple ideal d) multiples
  pub sum : IsSame ideal.modulus f (flat_map terms_of multiples)

-- the leading word of a member other than 0
pub record IsLeadingWord (ideal : Ideal) (d : ℕ) (w : List ℕ) : Type 0 where
  pub member : List Term
  pub inside : IsInIdeal ideal d member
  pub lead : lead_of member ≡ Some w

-- a leading word, no proper factor of which is one
pub record IsMinimal (ideal : Ideal) (w : List ℕ) : Type 0 where
  pub leading : IsLeadingWord ideal (degree_of ideal.weights w) w
  pub none_inside : (v : List ℕ) → IsProperFactor v w → IsLeadingWord ideal (degree_of ideal.weights v) v → ⊥
