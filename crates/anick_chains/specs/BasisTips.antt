-- The leading words of a basis as tips.
use Rattle.std.specs.Prelude.{ℕ, ◌≡◌, ◌<◌, ◌↔◌, List, Contains, length, map}
use Rattle.free_poly.specs.declared.term.Term.{Term}
use Rattle.free_poly.specs.Poly.{lead_or_none}
use Rattle.ideal_laws.specs.Closure.{IsFactorFree}
use Rattle.ideal_laws.specs.Ideal.{Ideal, IsMinimal}
use Rattle.ideal_laws.specs.Kept.{IsKept}
use Rattle.ideal_laws.specs.Laws.{IsSetting}
use Rattle.ideal_laws.specs.Overlaps.{AreLower}
use Rattle.lead_index.specs.Leads.{IsIndexOf}
use Rattle.anick_chains.specs.declared.tip_index.TipIndex.{TipIndex}
use Rattle.anick_chains.specs.Chains.{IsChain, chain_degree}

-- the leading words of some elements
abbrev pub leads_of : List (List Term) → List (List ℕ)
leads_of G = map lead_or_none G

-- up to the degrees of which the reduced elements are listed, the chains over their leading words are those over the
-- minimal words
abbrev pub HasMinimalChains : Type 0
HasMinimalChains = (ideal : Ideal) → IsSetting ideal → (e : ℕ) (G : List (List Term)) → AreLower ideal e G
    → (c : List (List ℕ)) → chain_degree ideal.weights c < e
    → IsChain (Contains (leads_of G)) (length ideal.weights) c ↔ IsChain (IsMinimal ideal) (length ideal.weights) c

-- a basis whose leading words are tips, with an index of them and the weights of the letters
pub record IsTipIndex (t : TipIndex) : Type 0 where
  pub kept : IsKept t.basis.now
  pub factor_free : IsFactorFree t.basis.now.elements
  pub indexed : IsIndexOf t.basis.now.elements t.index
  pub weighted : t.weights.items ≡ t.basis.now.weights
