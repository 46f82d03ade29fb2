use Rattle.std.proofs.Common.{◌<◌, ◌++◌, ◌∷◌, [], Global, List, Vec, sym, ap, ◌∙◌, arith, length}
use Rattle.free_poly.specs.declared.term.Term.{Term}
use Rattle.degree_loop.proofs.Listing.{of_degree-left, of_degree-listed}
use Rattle.degree_loop.proofs.relations.relations_of_degree.Goals as goal
use Rattle.degree_loop.proofs.relations.relations_of_degree.Goals.{then-has_degree+in_ok-relation+in_ok-push, else-has_degree}

pub loop-relation-preserved : goal.loop-relation-preserved
loop-relation-preserved c =
    let weights = c.args.presentation.now.alphabet.weights in
    let relations = c.args.presentation.now.relations in
    let i = c.loop-relation.relation-index in
    let f = c.relation-item.result in
    let lt : i < length relations = omega (arith, c.loop-relation-test.true, ap length c.as_slice-relation-items.ensures) in
    let is = rw c.as_slice-relation-items.ensures at c.relation-item.is in
    let items = λ (v : Vec (List Term) Global). v.items in
    elim c.if-has_degree.branch [
      | then-has_degree+in_ok-relation+in_ok-push w ↦
          ap items w.found-is ∙ w.in_ok-push.ensures.items ∙ ap (λ (g : List Term). c.loop-relation.found.items ++ g ∷ []) w.in_ok-relation.ensures
          ∙ ap (λ (gs : List (List Term)). gs ++ f ∷ []) c.loop-relation.invariant
          ∙ sym (of_degree-listed weights c.args.d relations i f c.has_degree.result lt is c.has_degree.ensures w.if-has_degree.true)
      | else-has_degree w ↦
          ap items w.found-is ∙ c.loop-relation.invariant
          ∙ sym (of_degree-left weights c.args.d relations i f c.has_degree.result lt is c.has_degree.ensures w.if-has_degree.false)
    ]
