-- What a call tells of a right module up to a degree.
use Rattle.std.specs.Prelude.{ℕ, ◌≡◌, ◌+◌, ◌-◌, ◌<◌, ◌≤◌, List, [], All, filter, length, slice_index, slice_index_or}
use Rattle.std.specs.Prelude.{take}
use Rattle.free_poly.specs.declared.term.Term.{Term}
use Rattle.ideal_laws.specs.Ideal.{ideal_of}
use Rattle.ideal_laws.specs.declared.engine.EngineFault.{EngineFault}
use Rattle.ideal_laws.specs.declared.engine.EngineFault.TheVariants as engine
use Rattle.ideal_laws.specs.declared.presentation.Presentation.{Presentation}
use Rattle.ideal_laws.specs.Engine.{Elements, of_degree}
use Rattle.right_modules.specs.declared.module.ModuleDegree.{ModuleDegree}
use Rattle.right_modules.specs.declared.module.ModuleFault.{ModuleFault}
use Rattle.right_modules.specs.declared.module.ModuleFault.TheVariants as own
use Rattle.right_modules.specs.Laws.{AreOutside}
use Rattle.right_modules.specs.Module.{IsShaped}
use Rattle.right_modules.specs.ModuleBasis.{IsModuleBasis, leads_module}
use Rattle.right_modules.specs.ModuleDimension.{IsModuleCoefficient}

-- what a fault of the engine is for the module
abbrev pub fault_of : EngineFault → ModuleFault
fault_of (engine.Limit kind degree value) = own.Limit kind degree value
fault_of engine.NoMemory = own.NoMemory

-- how many letters are no generators, which are the last so many
abbrev pub free_letters : Presentation → ℕ → ℕ
free_letters given gens = length given.alphabet.weights - gens

-- each relation is of the one kind or the other
abbrev pub AreShaped : Presentation → ℕ → Type 0
AreShaped given gens = All (IsShaped (free_letters given gens)) given.relations

-- the reduced module basis of a degree
abbrev pub IsModuleBasisOf : ℕ → Presentation → ℕ → ℕ → List (List Term) → Type 0
IsModuleBasisOf p given gens d basis = IsModuleBasis (ideal_of p given) (free_letters given gens) d basis

-- degrees 1 to the bound, in order, each with its reduced module basis
pub record AreModuleDegrees (p : ℕ) (given : Presentation) (gens bound : ℕ) (degrees : List ModuleDegree) : Type 0 where
  pub size : length degrees ≡ bound
  pub numbered : (k : ℕ) (m : ModuleDegree) → k < bound → (slice_index_or degrees k m).degree ≡ k + 1
  pub each : (k : ℕ) (m : ModuleDegree) → k < bound
      → IsModuleBasisOf p given gens (k + 1) (slice_index_or degrees k m).elements

-- degrees 1 to the bound, in order, each with the elements of a basis that lead with a module word
pub record ArePartsUpto (free : ℕ) (basis : Elements) (bound : ℕ) (degrees : List ModuleDegree) : Type 0 where
  pub size : length degrees ≡ bound
  pub numbered : (k : ℕ) (m : ModuleDegree) → k < bound → (slice_index_or degrees k m).degree ≡ k + 1
  pub each : (k : ℕ) (m : ModuleDegree) → k < bound
      → (slice_index_or degrees k m).elements ≡ filter (leads_module free)
      (of_degree basis.weights (k + 1) basis.elements)

-- the coefficients of degrees 0 to the bound
pub record AreModuleNumbers (p : ℕ) (given : Presentation) (gens bound : ℕ) (numbers : List ℕ) : Type 0 where
  pub size : length numbers ≡ bound + 1
  pub each : (d : ℕ) → d ≤ bound
      → IsModuleCoefficient (ideal_of p given) (free_letters given gens) d (slice_index numbers d)

-- the first relation, counted from 1, of neither kind
pub record IsFirstOther (free : ℕ) (relations : List (List Term)) (relation : ℕ) : Type 0 where
  pub from : 0 < relation
  pub upto : relation ≤ length relations
  pub before : All (IsShaped free) (take (relation - 1) relations)
  pub other : IsShaped free (slice_index_or relations (relation - 1) []) → ⊥

-- the words are exactly the module words of the degree outside the leading words of the module
abbrev pub AreModuleOutside : ℕ → Presentation → ℕ → ℕ → List (List ℕ) → Type 0
AreModuleOutside p given gens d words = AreOutside (ideal_of p given) (free_letters given gens) d words

-- the first degree with more of these than the limit, and the limit plus 1
pub record IsFirstLarge (p : ℕ) (given : Presentation) (gens limit bound d value : ℕ) : Type 0 where
  pub upto : d ≤ bound
  pub kept : value ≡ limit + 1
  pub before : (e : ℕ) → e < d
      → (words : List (List ℕ)) × AreModuleOutside p given gens e words × (length words ≤ limit)
  pub words : List (List ℕ)
  pub are_outside : AreModuleOutside p given gens d words
  pub large : limit < length words
