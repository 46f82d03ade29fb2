-- The laws of elements. An element of degree d is a polynomial with residues whose words are all words of degree d.
use Rattle.std.specs.Prelude.{ℕ, ◌≡◌, ◌≢◌, ◌+◌, ◌*◌, List, ◌∷◌, ◌++◌, All}
use Rattle.words.specs.Words.{AreWeights, IsOver, degree_of}
use Rattle.words.specs.Order.{IsGreater}
use Rattle.free_poly.specs.declared.term.Term.{Term}
use Rattle.free_poly.specs.Terms.{HasDegree, HasNoPrefix, HasOneDegree, HasResidues, IsSame, UsesLetters, product}
use Rattle.free_poly.specs.Terms.{scaled, total_at}
use Rattle.free_poly.specs.Poly.{IsMultiple, IsPolynomial}

-- two polynomials with the same coefficients are one
abbrev pub IsKnownByCoefficients : Type 0
IsKnownByCoefficients = (p : ℕ) (f g : List Term) → IsPolynomial f → IsPolynomial g → HasResidues p f →
    HasResidues p g → IsSame p f g → f ≡ g

-- the coefficients of a sum
abbrev pub AddsCoefficients : Type 0
AddsCoefficients = (f g : List Term) (w : List ℕ) → total_at (f ++ g) w ≡ total_at f w + total_at g w

-- the coefficients of a multiple
abbrev pub ScalesCoefficients : Type 0
ScalesCoefficients = (a : ℕ) (f : List Term) (w : List ℕ) → total_at (scaled a f) w ≡ a * total_at f w

-- the coefficient of a product at u * w * v is that at w, and at all other words there is none
abbrev pub MovesCoefficients : Type 0
MovesCoefficients = (u : List ℕ) (f : List Term) (v : List ℕ) →
    ((w : List ℕ) → total_at (product u f v) (u ++ w ++ v) ≡ total_at f w)
    × ((x : List ℕ) → ((w : List ℕ) → u ++ w ++ v ≢ x) → total_at (product u f v) x ≡ 0)

-- where all words have one degree, the first is the greatest in the order of words
abbrev pub LeadsWithGreatest : Type 0
LeadsWithGreatest = (weights : List ℕ) → AreWeights weights → (t : Term) (f : List Term) → IsPolynomial (t ∷ f) →
    HasOneDegree weights (t ∷ f) → All (λ s. IsGreater weights t.word s.word) f

-- and none is a proper prefix of another
abbrev pub HasNoPrefixInDegree : Type 0
HasNoPrefixInDegree = (weights : List ℕ) → AreWeights weights → (f : List Term) → HasOneDegree weights f → HasNoPrefix f

-- the sum of an element and a multiple of another of that degree has that degree
abbrev pub KeepsDegreeInSums : Type 0
KeepsDegreeInSums = (p a : ℕ) (weights : List ℕ) (d : ℕ) (f g h : List Term) → IsPolynomial f → HasResidues p f →
    IsSame p f (g ++ scaled a h)
    → HasDegree weights d g → HasDegree weights d h → HasDegree weights d f

-- and the letters of the two
abbrev pub KeepsLettersInSums : Type 0
KeepsLettersInSums = (p a names : ℕ) (f g h : List Term) → IsPolynomial f → HasResidues p f →
    IsSame p f (g ++ scaled a h)
    → UsesLetters names g → UsesLetters names h → UsesLetters names f

-- a multiple has the degree of the element
abbrev pub KeepsDegreeInMultiples : Type 0
KeepsDegreeInMultiples = (p : ℕ) (weights : List ℕ) (d : ℕ) (f g : List Term) → IsPolynomial f → HasResidues p f →
    IsMultiple p f g →
    HasDegree weights d g → HasDegree weights d f

-- and its letters
abbrev pub KeepsLettersInMultiples : Type 0
KeepsLettersInMultiples = (p names : ℕ) (f g : List Term) → IsPolynomial f → HasResidues p f → IsMultiple p f g →
    UsesLetters names g → UsesLetters names f

-- a product has the degree of its parts together
abbrev pub AddsDegreeInProducts : Type 0
AddsDegreeInProducts = (weights : List ℕ) (d : ℕ) (u : List ℕ) (f : List Term) (v : List ℕ) → HasDegree weights d f
    → HasDegree weights (degree_of weights u + d + degree_of weights v) (product u f v)

-- and their letters
abbrev pub KeepsLettersInProducts : Type 0
KeepsLettersInProducts = (names : ℕ) (u : List ℕ) (f : List Term) (v : List ℕ) → IsOver names u → IsOver names v →
    UsesLetters names f →
    UsesLetters names (product u f v)
