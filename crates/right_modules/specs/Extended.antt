-- The normal module words of a degree, by those of the degrees before and their last letter.
use Rattle.std.specs.Prelude.{ℕ, ◌≡◌, ◌≢◌, ◌+◌, ◌-◌, ◌==◌, ◌<◌, ◌≤◌, ◌↔◌, Bool, true, cond, ltb, min, List, [], ◌∷◌}
use Rattle.std.specs.Prelude.{◌++◌, AllPairs, Contains, length}
use Rattle.std.specs.Prelude.{slice_index_or}
use Rattle.std.specs.List.{flat_map}
use Rattle.words.specs.Words.{weight_of}
use Rattle.ideal_laws.specs.Ideal.{ideal_of}
use Rattle.ideal_laws.specs.declared.presentation.Presentation.{Presentation}
use Rattle.lead_index.specs.declared.lead.Lead.{Lead}
use Rattle.lead_index.specs.Leads.{IsFree}
use Rattle.normal_words.specs.Block.{begins, unless}
use Rattle.right_modules.specs.Answered.{free_letters}
use Rattle.right_modules.specs.Laws.{IsModuleSetting}
use Rattle.right_modules.specs.Module.{IsModuleLead}
use Rattle.right_modules.specs.ModuleDimension.{module_words}

-- exactly the module words of the degree in which no word of the index stands, each once
pub record AreNormal (weights : List ℕ) (free : ℕ) (leads : List Lead) (d : ℕ) (words : List (List ℕ)) : Type 0 where
  pub exactly : (w : List ℕ) → Contains words w ↔ (Contains (module_words weights free d) w × IsFree leads w)
  pub apart : AllPairs (λ v w. v ≢ w) words

-- those of the degrees before d, at most 8 of them, the last one first
pub record AreHeld (weights : List ℕ) (free : ℕ) (leads : List Lead) (d : ℕ) (held : List (List (List ℕ))) : Type 0
  where
    pub count : length held ≡ min d 8
    pub each : (k e : ℕ) → k < length held → e + k + 1 ≡ d → AreNormal weights free leads e (slice_index_or held k [])

-- up to the bound the module words that are no leading words of the module are those in which no word of the index
-- stands
pub record TellsOutside (p : ℕ) (given : Presentation) (gens bound : ℕ) (leads : List Lead) : Type 0 where
  pub setting : IsModuleSetting (ideal_of p given) (free_letters given gens)
  pub says : (d : ℕ) (w : List ℕ) → d ≤ bound → Contains
      (module_words given.alphabet.weights (free_letters given gens) d) w
      → (IsModuleLead (ideal_of p given) (free_letters given gens) d w → ⊥) ↔ IsFree leads w

-- whether a word of the index stands in the word
abbrev pub stands : List Lead → List ℕ → Bool
stands leads [] = begins leads []
stands leads (x ∷ w) = cond (begins leads (x ∷ w)) true (stands leads w)

-- the word, where no word of the index stands in it
abbrev pub unless_stands : List Lead → List ℕ → List (List ℕ)
unless_stands leads w = unless (stands leads w) w

-- each of the words with the letter behind it, but for those in which a word of the index stands
abbrev pub extended : List Lead → ℕ → List (List ℕ) → List (List ℕ)
extended leads x words = flat_map (λ w. unless_stands leads (w ++ x ∷ [])) words

-- the words of degree d that end with the letter: a generator alone, or a word before it with a free letter
abbrev pub ending : List ℕ → ℕ → List Lead → ℕ → List (List (List ℕ)) → ℕ → List (List ℕ)
ending weights free leads d held x = cond (ltb x free)
    (extended leads x (slice_index_or held (weight_of weights x - 1) []))
    (cond (weight_of weights x == d) (unless_stands leads (x ∷ [])) [])
