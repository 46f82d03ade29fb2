-- The list of chains up to a degree, and their number.
use Rattle.std.specs.Prelude.{ℕ, ◌≡◌, ◌≢◌, ◌<◌, ◌≤◌, ◌⊎◌, ◌↔◌, List, ◌∷◌, ◌++◌, AllPairs, Contains, length}
use Rattle.words.specs.Order.{IsGreater}
use Rattle.ideal_laws.specs.Engine.{Elements}
use Rattle.anick_chains.specs.BasisTips.{leads_of}
use Rattle.anick_chains.specs.Chains.{IsChain, chain_degree}

-- two lists of pieces have the same first pieces, and then one piece of the first is greater
pub record HasGreaterPiece (weights : List ℕ) (a b : List (List ℕ)) : Type 0 where
  pub before : List (List ℕ)
  pub greater : List ℕ
  pub smaller : List ℕ
  pub rest_a : List (List ℕ)
  pub rest_b : List (List ℕ)
  pub first_is : a ≡ before ++ greater ∷ rest_a
  pub second_is : b ≡ before ++ smaller ∷ rest_b
  pub order : IsGreater weights greater smaller

-- of two lists of pieces the shorter one, or else the one with the greater piece at the first place where they differ
abbrev pub StandsInDegree : List ℕ → List (List ℕ) → List (List ℕ) → Type 0
StandsInDegree weights a b = (length a < length b) ⊎ ((length a ≡ length b) × HasGreaterPiece weights a b)

-- by degree, then by length, then the one with the greater piece at the first place where they differ
abbrev pub StandsBefore : List ℕ → List (List ℕ) → List (List ℕ) → Type 0
StandsBefore weights a b = (chain_degree weights a < chain_degree weights b)
    ⊎ ((chain_degree weights a ≡ chain_degree weights b) × StandsInDegree weights a b)

-- exactly the chains up to a degree, in their order
pub record AreChains (T : List ℕ → Type 0) (names : ℕ) (weights : List ℕ) (bound : ℕ)
    (chains : List (List (List ℕ))) : Type 0 where
  pub exactly : (c : List (List ℕ)) → Contains chains c ↔ (IsChain T names c × (chain_degree weights c ≤ bound))
  pub ordered : AllPairs (StandsBefore weights) chains

-- the number of chains up to a degree: the length of a list that has each of them once
pub record IsNumber (T : List ℕ → Type 0) (names : ℕ) (weights : List ℕ) (bound number : ℕ) : Type 0 where
  pub chains : List (List (List ℕ))
  pub exactly : (c : List (List ℕ)) → Contains chains c ↔ (IsChain T names c × (chain_degree weights c ≤ bound))
  pub apart : AllPairs (λ a b. a ≢ b) chains
  pub count : number ≡ length chains

-- that over the leading words of a basis
abbrev pub IsNumberOf : Elements → ℕ → ℕ → Type 0
IsNumberOf b = IsNumber (Contains (leads_of b.elements)) (length b.weights) b.weights

-- the first degree up to which there are more than so many
pub record IsFirstMany (T : List ℕ → Type 0) (names : ℕ) (weights : List ℕ) (bound most d : ℕ) : Type 0 where
  pub upto : d ≤ bound
  pub number : ℕ
  pub is_number : IsNumber T names weights d number
  pub many : most < number
  pub before : (e : ℕ) → e < d → (n : ℕ) × IsNumber T names weights e n × (n ≤ most)
