-- The elements of a range that lead with a module word, and those of each degree.
use Rattle.std.proofs.Common.{◌≡◌, ◌+◌, ◌++◌, ◌-◌, ◌<◌, ◌≤◌, ◌∙◌, ℕ, Bool, true, false, cond, IsTrue, List, [], ◌∷◌, ap, arith, drop, filter, get_or}
use Rattle.std.proofs.Common.{length, refl, slice_range, subst, sym, take}
use Rattle.std.proofs.lemmas.Bool.{false_from_ne_true}
use Rattle.std.proofs.lemmas.List.{get_or-drop, length-drop}
use Rattle.std.proofs.lemmas.List.Elements.{filter_more}
use Rattle.free_poly.specs.declared.term.Term.{Term}
use Rattle.right_modules.specs.Module.{IsModuleWord, is_module_word}
use Rattle.right_modules.specs.ModuleBasis.{leads_module}
use Rattle.right_modules.proofs.Shapes.{is_module_word-is, is_module_word-says}

-- a range with one more item, of which those are kept that pass a test
pub filter-range_more : {X : Type 0} (f : X → Bool) (xs : List X) (first place : ℕ) (x : X) → first ≤ place → place < length xs → x ≡ get_or xs place x
    → filter f (slice_range xs first (place + 1)) ≡ filter f (slice_range xs first place) ++ cond (f x) (x ∷ []) []
filter-range_more {X} f xs first place x from within is =
    let size : place + 1 - first ≡ place - first + 1 = omega (arith, from) in
    let at : first + (place - first) ≡ place = omega (arith, from) in
    let here : get_or (drop first xs) (place - first) x ≡ x = get_or-drop first xs (place - first) x ∙ ap (λ (k : ℕ). get_or xs k x) at ∙ sym is in
    ap (λ (k : ℕ). filter f (take k (drop first xs))) size
    ∙ filter_more f (drop first xs) (place - first) x (omega (arith, within, from, length-drop first xs))
    ∙ ap (λ (y : X). filter f (slice_range xs first place) ++ cond (f y) (y ∷ []) []) here

-- a test of the first word is one of the polynomial
pub leads_from_first : (free : ℕ) (f : List Term) (t : Term) (b : Bool) → 0 < length f → t ≡ get_or f 0 t
    → (IsTrue b → IsModuleWord free t.word) × (IsModuleWord free t.word → IsTrue b) → b ≡ leads_module free f
leads_from_first free [] t b some is says = absurd (omega (arith, some))
leads_from_first free (s ∷ f) t true some is says = sym (is_module_word-is free s.word (subst (λ (u : Term). IsModuleWord free u.word) is (says.0 refl)))
leads_from_first free (s ∷ f) t false some is says = sym (false_from_ne_true (is_module_word free s.word)
    (λ e. let word = says.1 (subst (λ (u : Term). IsModuleWord free u.word) (sym is) (is_module_word-says free s.word e)) in cc word))
