use Rattle.std.proofs.Common.{◌≡◌, ◌+◌, ◌++◌, ◌<◌, List, length, take, get_or, sym, ap, ◌∙◌, arith}
use Rattle.free_poly.specs.declared.term.Term.{Term}
use Rattle.cofactors.specs.ProductList.{triples_at, triples_from}
use Rattle.cofactors.proofs.TripleCounts.{triples_from-take}
use Rattle.cofactors.proofs.triples.triples_of.Goals as goal

pub loop-at-preserved : goal.loop-at-preserved
loop-at-preserved c =
    let weights = c.args.presentation.now.alphabet.weights in
    let rs = c.args.presentation.now.relations in
    let d = c.args.d in
    let k = c.loop-at.at in
    let r = c.relation-item.result in
    let given = c.as_slice-relation-items.ensures in
    let within : k < length rs = omega (arith, c.loop-at-test.true, ap length given) in
    let is : r ≡ get_or rs k r = c.relation-item.is ∙ ap (λ (ss : List (List Term)). get_or ss k r) given in
    let before = triples_from weights d 1 (take k rs) in
    let number : k + 1 ≡ 1 + k = omega arith in
    c.in_ok-push_triples.ensures
    ∙ (λ j. c.loop-at.invariant j ++ triples_at weights d (number j) r)
    ∙ sym (triples_from-take weights d 1 rs k r within is)
