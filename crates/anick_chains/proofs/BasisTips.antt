-- The leading words of a kept basis of which none is a factor of another's are tips.
use Rattle.std.proofs.Common.{◌≡◌, ◌≢◌, ◌<◌, ℕ, List, [], ◌∷◌, length, get_or, refl, sym, ap, ◌∙◌, arith, subst, Some}
use Rattle.std.specs.List.{Contains, slice_get}
use Rattle.std.proofs.lemmas.List.Elements.{All-contains, All-head}
use Rattle.std.proofs.lemmas.List.{get_or_default}
use Rattle.std.proofs.lemmas.Option.{slice_get-get_or}
use Rattle.words.specs.Words.{IsOver, degree_of}
use Rattle.words.proofs.Members.{Contains-map_cases}
use Rattle.free_poly.specs.declared.term.Term.{Term}
use Rattle.free_poly.specs.Poly.{lead_of, lead_or_none}
use Rattle.ideal_laws.specs.Closure.{IsFactorFree}
use Rattle.ideal_laws.specs.Engine.{Elements}
use Rattle.ideal_laws.specs.Kept.{IsKept, IsKeptElement}
use Rattle.anick_chains.specs.BasisTips.{leads_of}
use Rattle.anick_chains.specs.Laws.{AreListedTips}

module _ (basis : Elements) (kept : IsKept basis) (factor_free : IsFactorFree basis.elements) where
  kept_element : (g : List Term) → Contains basis.elements g → IsKeptElement basis.weights basis.done g
  kept_element g m = All-contains (IsKeptElement basis.weights basis.done) basis.elements g kept.each m

  first_over : (g : List Term) (w : List ℕ) → IsKeptElement basis.weights basis.done g → lead_or_none g ≡ w → (w ≢ []) × IsOver (length basis.weights) w
  first_over [] w k e = absurd k.monic
  first_over (t ∷ g) w k e = (
    (λ none. omega (arith, k.from, ap (degree_of basis.weights) (e ∙ none))),
    subst (IsOver (length basis.weights)) e (All-head (λ (s : Term). IsOver (length basis.weights) s.word) t g k.letters),
  )

  lead_some : (g : List Term) → IsKeptElement basis.weights basis.done g → lead_of g ≡ Some (lead_or_none g)
  lead_some [] k = absurd k.monic
  lead_some (t ∷ g) k = refl

  get_some : (xs : List (List Term)) (i : ℕ) (g : List Term) → i < length xs → get_or xs i g ≡ g → slice_get xs i ≡ Some g
  get_some xs i g lt e = slice_get-get_or xs i g lt ∙ ap Some e

  -- the leading words are tips
  pub listed_tips : AreListedTips (length basis.weights) (leads_of basis.elements)
  listed_tips = record {
    some = λ w m. let g = Contains-map_cases lead_or_none basis.elements w m in (first_over g.0 w (kept_element g.0 g.1) g.2).0;
    over = λ w m. let g = Contains-map_cases lead_or_none basis.elements w m in (first_over g.0 w (kept_element g.0 g.1) g.2).1;
    apart = λ v w m n i.
        let g = Contains-map_cases lead_or_none basis.elements v m in
        let h = Contains-map_cases lead_or_none basis.elements w n in
        let at = factor_free g.1.0 h.1.0 g.0 h.0 v w (get_some basis.elements g.1.0 g.0 g.1.1 g.1.2) (get_some basis.elements h.1.0 h.0 h.1.1 h.1.2)
        (lead_some g.0 (kept_element g.0 g.1) ∙ ap Some g.2) (lead_some h.0 (kept_element h.0 h.1) ∙ ap Some h.2) i in
        sym g.2 ∙ ap lead_or_none (sym g.1.2 ∙ ap (λ (k : ℕ). get_or basis.elements k g.0) at ∙ same_at basis.elements h.1.0 g.0 h.0 h.1.1 ∙ h.1.2) ∙ h.2;
  }
    where
      same_at : (xs : List (List Term)) (k : ℕ) (d e : List Term) → k < length xs → get_or xs k d ≡ get_or xs k e
      same_at xs k d e lt = get_or_default xs k d e lt
