-- An index of the leading words of a basis.
use Rattle.std.proofs.Common.{◌≡◌, ◌≢◌, ◌∙◌, List, [], ap, Some}
use Rattle.std.specs.List.{Contains, slice_get}
use Rattle.std.proofs.lemmas.List.Elements.{All-contains}
use Rattle.std.proofs.lemmas.Option.{get_or_from_slice_get, slice_get-get_or, slice_get_within}
use Rattle.words.specs.Words.{OccursAt}
use Rattle.words.proofs.Members.{All-from_members}
use Rattle.ideal_laws.specs.Engine.{Elements}
use Rattle.ideal_laws.specs.Kept.{IsKept, IsKeptElement}
use Rattle.lead_index.specs.declared.lead.Lead.{Lead}
use Rattle.lead_index.specs.Leads.{IsIndexOf}
use Rattle.lead_index.proofs.Indexing.{kept_fit}
use Rattle.hilbert.specs.Series.{IndexesLeads}

-- the index of the leading words of a basis says which words are normal
pub indexes_leads : (b : Elements) → IsKept b → (leads : List Lead) → IsIndexOf b.elements leads → IndexesLeads b.elements leads
indexes_leads b kept leads is = record {
  some = All-from_members (λ l. l.word ≢ []) leads
      (λ l m.
      let g = (is l).0 m in
      let in_list : Contains b.elements g.0 = (
        l.element,
        slice_get_within b.elements l.element g.0 g.1,
        get_or_from_slice_get b.elements l.element g.0 g.0 g.1,
      ) in
      (kept_fit b.weights b.done kept.weights kept.degrees g.0 (All-contains (IsKeptElement b.weights b.done) b.elements g.0 kept.each
      in_list) l.word g.2).some);
  says = λ w. (
    λ free g v k m led o.
        let at : slice_get b.elements m.0 ≡ Some g = slice_get-get_or b.elements m.0 g m.1 ∙ ap Some m.2 in
        All-contains (λ l. OccursAt l.word w k → ⊥) leads (record { word = v; element = m.0 }) (free k)
        ((is (record { word = v; element = m.0 })).1 (g, at, led)) o,
    λ normal at. All-from_members (λ l. OccursAt l.word w at → ⊥) leads
        (λ l m o.
        let g = (is l).0 m in
        normal g.0 l.word at (l.element, slice_get_within b.elements l.element g.0 g.1, get_or_from_slice_get b.elements l.element g.0 g.0 g.1) g.2 o),
  );
}
