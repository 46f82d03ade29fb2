-- The elements of relations, and the fault of the first relation that has one.
use Rattle.std.specs.Prelude.{ℕ, ◌≡◌, ◌≢◌, ◌^◌, ◌<◌, List, [], ◌∷◌, All, length, Some, None}
use Rattle.words.specs.Words.{degree_of}
use Rattle.free_poly.specs.declared.term.Term.{Term}
use Rattle.free_poly.specs.Terms.{HasOneDegree, HasResidues, IsSame, UsesLetters}
use Rattle.free_poly.specs.Poly.{IsPolynomial}
use Rattle.relation_reader.specs.declared.fault.InputFault.{InputFault}
use Rattle.relation_reader.specs.declared.fault.ReaderFault.{ReaderFault}
use Rattle.relation_reader.specs.declared.fault.ReaderFault.TheVariants as answers
use Rattle.relation_reader.specs.Meaning.{first_of, others_than_zero, relation_faults}

-- terms that can be summed: with residues, in the letters of the weights, and of degrees that a machine number holds
pub record AreSummable (p : ℕ) (weights : List ℕ) (terms : List Term) : Type 0 where
  pub residues : HasResidues p terms
  pub letters : UsesLetters (length weights) terms
  pub degrees : All (λ t. degree_of weights t.word < 2 ^ 64) terms

-- the polynomial that a sum of terms is
pub record IsElementOf (p : ℕ) (terms f : List Term) : Type 0 where
  pub form : IsPolynomial f
  pub residues : HasResidues p f
  pub sum : IsSame p f terms

-- an element that may stand in a presentation, unless it is 0
pub record IsFitting (p : ℕ) (weights : List ℕ) (f : List Term) : Type 0 where
  pub residues : HasResidues p f
  pub letters : UsesLetters (length weights) f
  pub one_degree : HasOneDegree weights f
  pub words : All (λ t. t.word ≢ []) f

-- those that some sums are, in order
abbrev pub AreElementsOf : ℕ → List (List Term) → List (List Term) → Type 0
AreElementsOf p [] [] = Unit {0}
AreElementsOf p (terms ∷ ls) (f ∷ fs) = IsElementOf p terms f × AreElementsOf p ls fs
AreElementsOf p ls fs = ⊥

-- what an error says of the relation with number k
abbrev pub IsRelationError : ℕ → List ℕ → List Term → ℕ → ReaderFault → Type 0
IsRelationError p weights terms k (answers.Text fault) = (f : List Term) → IsElementOf p terms f →
    first_of (relation_faults weights k (f ∷ [])) ≡ Some fault
IsRelationError p weights terms k answers.NoMemory = Unit {0}

-- these are the elements other than 0 of relations without a fault
pub record AreSound (p : ℕ) (weights : List ℕ) (relations found : List (List Term)) : Type 0 where
  pub elements : List (List Term)
  pub elements_are : AreElementsOf p relations elements
  pub no_fault : first_of (relation_faults weights 1 elements) ≡ None
  pub others : found ≡ others_than_zero elements

-- the elements of these relations, of which the first with a fault has this one
pub record AreRefused (p : ℕ) (weights : List ℕ) (relations : List (List Term)) (fault : InputFault) : Type 0 where
  pub elements : List (List Term)
  pub elements_are : AreElementsOf p relations elements
  pub first : first_of (relation_faults weights 1 elements) ≡ Some fault

-- what an error says of these relations
abbrev pub IsFirstError : ℕ → List ℕ → List (List Term) → ReaderFault → Type 0
IsFirstError p weights relations (answers.Text fault) = AreRefused p weights relations fault
IsFirstError p weights relations answers.NoMemory = Unit {0}
