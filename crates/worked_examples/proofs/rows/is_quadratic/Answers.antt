use Rattle.std.proofs.Common.{ℕ, ◌≡◌, ◌+◌, ◌==◌, cond, List, [], ◌∷◌, Some, length, get_or, ap, ◌∙◌, arith, refl, subst}
use Rattle.words.specs.Words.{degree_of, weight_of}
use Rattle.free_poly.specs.declared.term.Term.{Term}
use Rattle.free_poly.specs.Poly.{lead_of}
use Rattle.ideal_laws.specs.Engine.{of_degree}
use Rattle.worked_examples.proofs.rows.is_quadratic.Goals as goal

-- one relation that leads with x*x, which has degree 2, has not degree 4
none_of : (ws : List ℕ) (rs : List (List Term)) (r : List Term) → length rs ≡ 1 → weight_of ws 0 ≡ 1 → r ≡ get_or rs 0 r →
    lead_of r ≡ Some (0 ∷ 0 ∷ []) → of_degree ws 4 rs ≡ []
none_of ws [] r count one is lead = refl
none_of ws ([] ∷ []) r count one is lead = refl
none_of ws ((t ∷ f) ∷ []) r count one is lead =
    let first : Some t.word ≡ Some (0 ∷ 0 ∷ []) = subst (λ (g : List Term). lead_of g ≡ Some (0 ∷ 0 ∷ [])) is lead in
    let word : t.word ≡ 0 ∷ 0 ∷ [] = cc in
    let two : weight_of ws 0 + (weight_of ws 0 + 0) ≡ 2 = omega (arith, one) in
    ap (λ (w : List ℕ). cond (degree_of ws w == 4) ((t ∷ f) ∷ []) []) word ∙ ap (λ (n : ℕ). cond (n == 4) ((t ∷ f) ∷ []) []) two
none_of ws (r ∷ q ∷ rs) g count one is lead = absurd (omega (arith, count))

pub returns-then-weight-eq1 : goal.returns-then-weight-eq1
returns-then-weight-eq1 c h =
    let one : weight_of c.args.given.now.alphabet.weights 0 ≡ 1 = omega (arith, c.weight.ensures.value, c.if-weight-eq1.true) in
    let none = none_of c.args.given.now.alphabet.weights c.as_slice-relations.result.now c.index-relations-0.result
    (omega (arith, c.if-relations-ne1.false)) one c.index-relations-0.is (c.leads_with.ensures h) in
    subst (λ (rs : List (List Term)). of_degree c.args.given.now.alphabet.weights 4 rs ≡ []) c.as_slice-relations.ensures none
