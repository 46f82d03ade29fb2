-- Chains as the code lists them.
use Rattle.std.specs.Prelude.{ℕ, ◌≡◌, List, All, Contains, length, map}
use Rattle.ideal_laws.specs.Engine.{Elements}
use Rattle.anick_chains.specs.declared.chain.Chain.{Chain}
use Rattle.anick_chains.specs.BasisTips.{leads_of}
use Rattle.anick_chains.specs.Chains.{chain_degree}
use Rattle.anick_chains.specs.Listing.{AreChains}

-- the pieces of each chain
abbrev pub pieces_of : List Chain → List (List (List ℕ))
pieces_of found = map (λ c. c.pieces) found

-- exactly the chains up to a degree, in their order, each with its degree
pub record AreListed (T : List ℕ → Type 0) (names : ℕ) (weights : List ℕ) (bound : ℕ) (found : List Chain) : Type 0
  where
    pub degrees : All (λ c. c.degree ≡ chain_degree weights c.pieces) found
    pub chains : AreChains T names weights bound (pieces_of found)

-- those over the leading words of a basis
abbrev pub AreListedOf : Elements → ℕ → List Chain → Type 0
AreListedOf b = AreListed (Contains (leads_of b.elements)) (length b.weights) b.weights

-- lists of pieces as chains of this degree
abbrev pub with_degree : ℕ → List (List (List ℕ)) → List Chain
with_degree d chains = map (λ c. record { degree = d; pieces = c }) chains
