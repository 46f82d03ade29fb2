-- The normal form of an element modulo the ideal.
use Rattle.std.specs.Prelude.{ℕ, List, ◌++◌, All}
use Rattle.std.specs.List.{flat_map}
use Rattle.free_poly.specs.declared.term.Term.{Term}
use Rattle.free_poly.specs.Terms.{IsSame}
use Rattle.ideal_laws.specs.Ideal.{Ideal, IsElement, IsLeadingWord, IsMultiple, Multiple, terms_of}

-- f is t and a sum of multiples of relations, and no word of t is a leading word
pub record IsNormalForm (ideal : Ideal) (d : ℕ) (f t : List Term) : Type 0 where
  pub element : IsElement ideal.modulus ideal.weights d t
  pub multiples : List Multiple
  pub each : All (IsMultiple ideal d) multiples
  pub sum : IsSame ideal.modulus f (t ++ flat_map terms_of multiples)
  pub normal : All (λ s. IsLeadingWord ideal d s.word → ⊥) t
