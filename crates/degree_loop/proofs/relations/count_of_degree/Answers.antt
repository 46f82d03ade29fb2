use Rattle.std.proofs.Common.{◌<◌, ◌∷◌, [], length, length-append, sym, take, ap, ◌∙◌, arith}
use Rattle.std.proofs.lemmas.List.{length-take-le}
use Rattle.ideal_laws.specs.Engine.{of_degree}
use Rattle.degree_loop.proofs.Listing.{length-of_degree, of_degree-left, of_degree-listed}
use Rattle.degree_loop.proofs.relations.count_of_degree.Goals as goal
use Rattle.degree_loop.proofs.relations.count_of_degree.Goals.{then-has_degree, else-has_degree}

pub overflow_add-count : goal.overflow_add-count
overflow_add-count c =
    let weights = c.args.presentation.now.alphabet.weights in
    let relations = c.args.presentation.now.relations in
    let i = c.loop-relation.relation-index in
    let lt : i < length relations = omega (arith, c.loop-relation-test.true, ap length c.as_slice-relation-items.ensures) in
    omega (arith, c.loop-relation.invariant, length-of_degree weights c.args.d (take i relations), length-take-le i relations, lt, c.args.presentation.now.few)

pub loop-relation-preserved : goal.loop-relation-preserved
loop-relation-preserved c =
    let weights = c.args.presentation.now.alphabet.weights in
    let relations = c.args.presentation.now.relations in
    let i = c.loop-relation.relation-index in
    let f = c.relation-item.result in
    let lt : i < length relations = omega (arith, c.loop-relation-test.true, ap length c.as_slice-relation-items.ensures) in
    let is = rw c.as_slice-relation-items.ensures at c.relation-item.is in
    elim c.if-has_degree.branch [
      | then-has_degree w ↦
          let whole = of_degree-listed weights c.args.d relations i f c.has_degree.result lt is c.has_degree.ensures w.if-has_degree.true in
          omega (arith, w.count-is, c.loop-relation.invariant, ap length whole, length-append (of_degree weights c.args.d (take i relations)) (f ∷ []))
      | else-has_degree w ↦
          w.count-is ∙ c.loop-relation.invariant
          ∙ sym (ap length (of_degree-left weights c.args.d relations i f c.has_degree.result lt is c.has_degree.ensures w.if-has_degree.false))
    ]
