-- Laws of right modules, by the two-sided ideal of all relations.
use Rattle.std.specs.Prelude.{ℕ, ◌≡◌, ◌≢◌, ◌↔◌, ◌<◌, List, All, AllPairs, Contains, Some, length}
use Rattle.free_poly.specs.declared.term.Term.{Term}
use Rattle.free_poly.specs.Poly.{lead_of}
use Rattle.ideal_laws.specs.Basis.{IsReduced}
use Rattle.ideal_laws.specs.Closure.{IsNormal}
use Rattle.ideal_laws.specs.Ideal.{Ideal, IsLeadingWord}
use Rattle.ideal_laws.specs.Laws.{IsOne, IsSetting}
use Rattle.ideal_laws.specs.Overlaps.{AreLower}
use Rattle.right_modules.specs.Module.{IsModuleLead, IsModuleWord, IsShaped}
use Rattle.right_modules.specs.ModuleBasis.{IsModuleBasis, IsModuleReduced}
use Rattle.right_modules.specs.ModuleDimension.{IsModuleCoefficient, module_words}

-- what the laws are about: a setting whose relations are of the one kind or the other
pub record IsModuleSetting (ideal : Ideal) (free : ℕ) : Type 0 where
  pub setting : IsSetting ideal
  pub shaped : All (IsShaped free) ideal.relations

-- the reduced elements of the module are those of the ideal whose leading word is a module word
abbrev pub IsIdealPart : Type 0
IsIdealPart = (ideal : Ideal) (free : ℕ) → IsModuleSetting ideal free
    → (d : ℕ) (f : List Term) → IsModuleReduced ideal free d f
    ↔ (IsReduced ideal d f × ((w : List ℕ) → lead_of f ≡ Some w → IsModuleWord free w))

-- each degree has exactly one reduced module basis
abbrev pub HasOneModuleBasis : Type 0
HasOneModuleBasis = (ideal : Ideal) (free : ℕ) → IsModuleSetting ideal free
    → (d : ℕ) → IsOne (IsModuleBasis ideal free d)

-- a module word is a leading word of the module exactly where it is one of the ideal
abbrev pub HasModuleLeads : Type 0
HasModuleLeads = (ideal : Ideal) (free : ℕ) → IsModuleSetting ideal free → (d : ℕ) (w : List ℕ) → IsModuleWord free w
    → IsModuleLead ideal free d w ↔ IsLeadingWord ideal d w

-- a list of exactly the module words of a degree that are no leading words of the module, each once
pub record AreOutside (ideal : Ideal) (free d : ℕ) (words : List (List ℕ)) : Type 0 where
  pub exactly : (w : List ℕ) → Contains words w
      ↔ (Contains (module_words ideal.weights free d) w × (IsModuleLead ideal free d w → ⊥))
  pub apart : AllPairs (λ v w. v ≢ w) words

-- the coefficient is one number, that of the module words that are no leading words of the module
abbrev pub CountsModule : Type 0
CountsModule = (ideal : Ideal) (free : ℕ) → IsModuleSetting ideal free
    → (d : ℕ) (words : List (List ℕ)) → AreOutside ideal free d words
    → (h : ℕ) → IsModuleCoefficient ideal free d h ↔ (h ≡ length words)

-- they are those in which no leading word stands of the reduced elements of some degrees, that of the word among them
abbrev pub IsOutsideWhereNormal : Type 0
IsOutsideWhereNormal = (ideal : Ideal) (free : ℕ) → IsModuleSetting ideal free
    → (e : ℕ) (G : List (List Term)) → AreLower ideal e G
    → (d : ℕ) (w : List ℕ) → d < e → Contains (module_words ideal.weights free d) w
    → (IsModuleLead ideal free d w → ⊥) ↔ IsNormal G w
