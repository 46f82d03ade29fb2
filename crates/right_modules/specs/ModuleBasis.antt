-- The reduced module basis of a degree.
use Rattle.std.specs.Prelude.{ℕ, ◌≡◌, ◌↔◌, Bool, false, List, [], ◌∷◌, All, AllPairs, Contains, Some}
use Rattle.free_poly.specs.declared.term.Term.{Term}
use Rattle.free_poly.specs.Poly.{IsMonic, lead_of}
use Rattle.ideal_laws.specs.Basis.{HasGreaterLead, below_lead}
use Rattle.right_modules.specs.Module.{IsInModule, IsModuleLead, IsModuleMinimal, is_module_word}
use Rattle.ideal_laws.specs.Ideal.{Ideal}

-- whether the first word is a module word
abbrev pub leads_module : ℕ → List Term → Bool
leads_module free [] = false
leads_module free (t ∷ f) = is_module_word free t.word

-- monic, with a minimal leading word, and no other word is a leading word of the module
pub record IsModuleReduced (ideal : Ideal) (free d : ℕ) (f : List Term) : Type 0 where
  pub inside : IsInModule ideal free d f
  pub monic : IsMonic f
  pub minimal : (w : List ℕ) → lead_of f ≡ Some w → IsModuleMinimal ideal free w
  pub others : All (λ t. IsModuleLead ideal free d t.word → ⊥) (below_lead f)

-- exactly the reduced members, by falling leading word
pub record IsModuleBasis (ideal : Ideal) (free d : ℕ) (basis : List (List Term)) : Type 0 where
  pub exactly : (f : List Term) → Contains basis f ↔ IsModuleReduced ideal free d f
  pub falling : AllPairs HasGreaterLead basis
