-- Dimension and Hilbert coefficient.
use Rattle.std.specs.Prelude.{ℕ, ◌≡◌, ◌+◌, ◌<◌, List, [], All, length}
use Rattle.std.specs.List.{flat_map, zip}
use Rattle.words.specs.Words.{words_of_degree}
use Rattle.free_poly.specs.declared.term.Term.{Term}
use Rattle.free_poly.specs.Terms.{IsSame, scaled}
use Rattle.ideal_laws.specs.Ideal.{Ideal, IsInIdeal}

-- the sum of c * f over two lists
abbrev pub combination : List ℕ → List (List Term) → List Term
combination cs fs = flat_map (λ (c, f). scaled c f) (zip cs fs)

-- residues, one for each element
pub record AreFactors (p : ℕ) (cs : List ℕ) (fs : List (List Term)) : Type 0 where
  pub count : length cs ≡ length fs
  pub residues : All (λ c. c < p) cs

-- only the factors 0 give 0
abbrev pub IsIndependent : ℕ → List (List Term) → Type 0
IsIndependent p fs = (cs : List ℕ) → AreFactors p cs fs → IsSame p (combination cs fs) [] → All (λ c. c ≡ 0) cs

-- k independent members of which every member is a combination
pub record IsDimension (ideal : Ideal) (d k : ℕ) : Type 0 where
  pub members : List (List Term)
  pub count : length members ≡ k
  pub inside : All (IsInIdeal ideal d) members
  pub independent : IsIndependent ideal.modulus members
  pub spanning : (f : List Term) → IsInIdeal ideal d f → (cs : List ℕ) × AreFactors ideal.modulus cs members
      × IsSame ideal.modulus f (combination cs members)

-- the number of words of the degree less the dimension
pub record IsHilbertCoefficient (ideal : Ideal) (d h : ℕ) : Type 0 where
  pub dimension : ℕ
  pub is_dimension : IsDimension ideal d dimension
  pub rest : h + dimension ≡ length (words_of_degree ideal.weights d)
