-- Dimension and coefficient of a right module in a degree.
use Rattle.std.specs.Prelude.{ℕ, ◌≡◌, ◌+◌, List, All, length, filter}
use Rattle.words.specs.Words.{words_of_degree}
use Rattle.free_poly.specs.declared.term.Term.{Term}
use Rattle.free_poly.specs.Terms.{IsSame}
use Rattle.ideal_laws.specs.Dimension.{AreFactors, IsIndependent, combination}
use Rattle.right_modules.specs.Module.{IsInModule, is_module_word}
use Rattle.ideal_laws.specs.Ideal.{Ideal}

-- the module words of a degree
abbrev pub module_words : List ℕ → ℕ → ℕ → List (List ℕ)
module_words weights free d = filter (is_module_word free) (words_of_degree weights d)

-- k independent members of which every member is a combination
pub record IsModuleDimension (ideal : Ideal) (free d k : ℕ) : Type 0 where
  pub members : List (List Term)
  pub count : length members ≡ k
  pub inside : All (IsInModule ideal free d) members
  pub independent : IsIndependent ideal.modulus members
  pub spanning : (f : List Term) → IsInModule ideal free d f
      → (cs : List ℕ) × AreFactors ideal.modulus cs members × IsSame ideal.modulus f (combination cs members)

-- the number of module words of the degree less the dimension
pub record IsModuleCoefficient (ideal : Ideal) (free d h : ℕ) : Type 0 where
  pub dimension : ℕ
  pub is_dimension : IsModuleDimension ideal free d dimension
  pub rest : h + dimension ≡ length (module_words ideal.weights free d)
