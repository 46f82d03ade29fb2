-- What an index of the leading words of a basis answers on the tips that stand in a word.
use Rattle.std.proofs.Common.{◌≡◌, ℕ, true, false, List, [], length, get_or, ap, ◌∙◌, subst, Some}
use Rattle.std.specs.List.{Contains}
use Rattle.std.proofs.lemmas.List.Elements.{All-contains}
use Rattle.std.proofs.lemmas.Option.{get_or_from_slice_get, slice_get-get_or, slice_get_within}
use Rattle.words.specs.Words.{OccursAt}
use Rattle.words.proofs.Factors.{factor_occurs, occurs_factor}
use Rattle.free_poly.specs.Poly.{lead_or_none}
use Rattle.ideal_laws.specs.Engine.{Elements}
use Rattle.ideal_laws.specs.Kept.{IsKept}
use Rattle.lead_index.specs.declared.lead.Lead.{Lead}
use Rattle.lead_index.specs.Leads.{IsFree, IsIndexOf, Starts}
use Rattle.overlaps.specs.Walk.{lead_word}
use Rattle.overlaps.proofs.Places.{element_kept, monic-lead}
use Rattle.anick_chains.specs.BasisTips.{leads_of}
use Rattle.anick_chains.specs.Chains.{HasTip}
use Rattle.anick_chains.specs.Walk.{stands}
use Rattle.anick_chains.proofs.Nexts.{lead_listed, listed_lead}
use Rattle.anick_chains.proofs.Stands.{stands-has, stands-not}
use Rattle.free_poly.proofs.Leads.{lead-is}

module _ (b : Elements) (kept : IsKept b) (leads : List Lead) (index : IsIndexOf b.elements leads) (w : List ℕ) where
  -- where no word of the index stands no tip does
  pub free_says : IsFree leads w → HasTip (Contains (leads_of b.elements)) w → ⊥
  free_says free h =
      let k = listed_lead b.elements h.tip h.is_tip in
      let lead = monic-lead (get_or b.elements k.0 []) (element_kept b kept k.0 k.1).monic ∙ ap Some k.2 in
      let l : Lead = record { word = h.tip; element = k.0 } in
      All-contains (λ l. OccursAt l.word w (length h.inside.before) → ⊥) leads l (free (length h.inside.before))
      ((index l).1 (get_or b.elements k.0 [], slice_get-get_or b.elements k.0 [] k.1, lead)) (factor_occurs h.tip w h.inside)

  -- where one stands it is a tip
  pub starts_says : (at element : ℕ) → Starts leads w at element → HasTip (Contains (leads_of b.elements)) w
  starts_says at element s =
      let g = (index s.lead).0 s.among in
      let within = slice_get_within b.elements s.lead.element g.0 g.1 in
      let word : lead_word b.elements s.lead.element ≡ s.lead.word =
      ap lead_or_none (get_or_from_slice_get b.elements s.lead.element g.0 [] g.1) ∙ lead-is g.0 s.lead.word g.2 in
      record {
        tip = s.lead.word;
        is_tip = subst (Contains (leads_of b.elements)) word (lead_listed b.elements s.lead.element within);
        inside = occurs_factor s.lead.word w at s.here;
      }

  -- where no word of the index stands, the test by the list says so
  pub stands-index : IsFree leads w → stands (leads_of b.elements) w ≡ false
  stands-index free = stands-not (leads_of b.elements) w (free_says free)

  -- where a tip of the index starts in the word, the test by the list holds
  pub stands-starts : (at element : ℕ) → Starts leads w at element → stands (leads_of b.elements) w ≡ true
  stands-starts at element s = stands-has (leads_of b.elements) w (starts_says at element s)
