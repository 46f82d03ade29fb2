use Rattle.std.proofs.Common.{◌≡◌, ◌+◌, ◌++◌, ◌∷◌, [], ℕ, List, false, true, subst, sym, ap, ◌∙◌, take}
use Rattle.std.proofs.lemmas.List.{take_more}
use Rattle.free_poly.specs.declared.term.Term.{Term}
use Rattle.plain_engine.specs.Elements.{AreElements}
use Rattle.plain_engine.proofs.Chosen.{elements_more, elements_same}
use Rattle.plain_engine.proofs.elements.elements_of.Goals as goal
use Rattle.plain_engine.proofs.elements.elements_of.Goals.{then-has_normal_lead+in_ok-element_of+in_ok-push, else-has_normal_lead}

pub loop-row-preserved : goal.loop-row-preserved
loop-row-preserved c =
    let columns = c.args.columns.now in
    let echelon = c.args.echelon.now in
    let G = c.args.below.now.elements in
    let i = c.loop-row.row-index in
    let row = c.row-item.result in
    let elements = c.loop-row.elements.items in
    let more : take i echelon ++ row ∷ [] ≡ take (i + 1) echelon = ap (λ (r : List ℕ). take i echelon ++ r ∷ []) c.row-item.is
    ∙ sym (take_more echelon i row c.loop-row-test.true) in
    subst (λ (rows : List (List ℕ)). AreElements columns G rows c.if-has_normal_lead.elements.items) more (elim c.if-has_normal_lead.branch [
      | then-has_normal_lead+in_ok-element_of+in_ok-push w ↦
          subst (AreElements columns G (take i echelon ++ row ∷ [])) (sym (ap (λ v. v.items) w.elements-is ∙ w.in_ok-push.ensures.items
          ∙ ap (λ (f : List Term). elements ++ f ∷ []) w.in_ok-element_of.ensures))
          (elements_more columns G (take i echelon) elements row c.loop-row.invariant (c.has_normal_lead.ensures.0 w.if-has_normal_lead.true))
      | else-has_normal_lead w ↦
          subst (AreElements columns G (take i echelon ++ row ∷ [])) (sym (ap (λ v. v.items) w.elements-is))
          (elements_same columns G (take i echelon) elements row c.loop-row.invariant
          (λ h. let is : c.has_normal_lead.result ≡ true = c.has_normal_lead.ensures.1 h in
          let wrong : true ≡ false = sym is ∙ w.if-has_normal_lead.false in cc))
    ])
