-- Module words by their last letter.
use Rattle.std.proofs.Common.{◌≡◌, ◌++◌, ◌<◌, ◌∙◌, ℕ, List, [], ◌∷◌, ap, arith, drop, length, length-append, subst, take}
use Rattle.std.specs.List.{Contains}
use Rattle.std.proofs.lemmas.List.{drop-append-le, length-drop, take-append-le}
use Rattle.std.proofs.lemmas.List.Elements.{All-contains, All-push}
use Rattle.words.specs.Words.{AreWeights, IsOver, OccursAt, degree_of, words_of_degree}
use Rattle.words.proofs.Degrees.{listed_word, words_of_degree-says}
use Rattle.words.proofs.Members.{All-from_members, Contains-filter, Contains-filter_cases}
use Rattle.lead_index.specs.declared.lead.Lead.{Lead}
use Rattle.lead_index.specs.Leads.{IsFree}
use Rattle.right_modules.specs.Module.{IsModuleWord, is_module_word}
use Rattle.right_modules.specs.ModuleDimension.{module_words}
use Rattle.right_modules.proofs.Shapes.{is_module_word-is, is_module_word-says}

-- the front of a free word is free
pub IsFree-front : (leads : List Lead) (u v : List ℕ) → IsFree leads (u ++ v) → IsFree leads u
IsFree-front leads u v h at = All-from_members (λ l. OccursAt l.word u at → ⊥) leads (λ l m o.
    All-contains (λ k. OccursAt k.word (u ++ v) at → ⊥) leads l (h at) m (record {
      within = omega (arith, o.within, length-append u v);
      same =
          ap (take (length l.word)) (drop-append-le at u v (omega (arith, o.within)))
          ∙ take-append-le (length l.word) (drop at u) v (omega (arith, o.within, length-drop at u)) ∙ o.same;
    }))

-- a module word with a free letter behind it is one
pub IsModuleWord-push : (free : ℕ) (u : List ℕ) (x : ℕ) → IsModuleWord free u → x < free → IsModuleWord free (u ++ x ∷ [])
IsModuleWord-push free [] x h lt = absurd h
IsModuleWord-push free (g ∷ u) x h lt = (h.0, All-push (λ y. y < free) u x h.1 lt)

module _ (weights : List ℕ) (aw : AreWeights weights) (free : ℕ) where
  -- what the module words of a degree are
  pub module_words-says : (d : ℕ) (w : List ℕ) → Contains (module_words weights free d) w
      → IsModuleWord free w × (IsOver (length weights) w × (degree_of weights w ≡ d))
  module_words-says d w m =
      let s = Contains-filter_cases (is_module_word free) (words_of_degree weights d) w m in
      (is_module_word-says free w s.1, words_of_degree-says weights aw d w s.0)

  -- and which words they have
  pub module_words-has : (d : ℕ) (w : List ℕ) → IsModuleWord free w → IsOver (length weights) w → degree_of weights w ≡ d
      → Contains (module_words weights free d) w
  module_words-has d w h over e =
      Contains-filter (is_module_word free) (words_of_degree weights d) w
      (subst (λ (n : ℕ). Contains (words_of_degree weights n) w) e (listed_word weights aw w over)) (is_module_word-is free w h)
