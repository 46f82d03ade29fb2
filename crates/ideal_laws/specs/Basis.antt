-- The reduced basis of a degree.
use Rattle.std.specs.Prelude.{ℕ, ◌≡◌, ◌↔◌, List, [], ◌∷◌, All, AllPairs, Contains, Some}
use Rattle.words.specs.Order.{IsLetterwiseGreater}
use Rattle.free_poly.specs.declared.term.Term.{Term}
use Rattle.free_poly.specs.Poly.{IsMonic, lead_of}
use Rattle.ideal_laws.specs.Ideal.{Ideal, IsInIdeal, IsLeadingWord, IsMinimal}

-- the words other than the leading one
abbrev pub below_lead : List Term → List Term
below_lead [] = []
below_lead (t ∷ ts) = ts

-- the leading words of two elements other than 0 stand in the order, which on one degree is letter by letter
pub record HasGreaterLead (f g : List Term) : Type 0 where
  pub of_f : List ℕ
  pub of_g : List ℕ
  pub leads_f : lead_of f ≡ Some of_f
  pub leads_g : lead_of g ≡ Some of_g
  pub greater : IsLetterwiseGreater of_f of_g

-- monic, with a minimal leading word, and no other word is a leading word
pub record IsReduced (ideal : Ideal) (d : ℕ) (f : List Term) : Type 0 where
  pub inside : IsInIdeal ideal d f
  pub monic : IsMonic f
  pub minimal : (w : List ℕ) → lead_of f ≡ Some w → IsMinimal ideal w
  pub others : All (λ t. IsLeadingWord ideal d t.word → ⊥) (below_lead f)

-- exactly the reduced members, by falling leading word
pub record IsReducedBasis (ideal : Ideal) (d : ℕ) (basis : List (List Term)) : Type 0 where
  pub exactly : (f : List Term) → Contains basis f ↔ IsReduced ideal d f
  pub falling : AllPairs HasGreaterLead basis
