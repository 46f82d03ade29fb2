use Rattle.std.proofs.Common.{◌≡◌, ◌+◌, ◌<◌, List, length, take, get_or, ap, ◌∙◌, arith, length-append}
use Rattle.free_poly.specs.declared.term.Term.{Term}
use Rattle.cofactors.specs.ProductList.{triples_at, triples_from}
use Rattle.cofactors.proofs.TripleCounts.{triples_from-take}
use Rattle.cofactors.proofs.triples.count_triples.Goals as goal

pub loop-relation-preserved : goal.loop-relation-preserved
loop-relation-preserved c =
    let weights = c.args.presentation.now.alphabet.weights in
    let rs = c.args.presentation.now.relations in
    let d = c.args.d in
    let k = c.loop-relation.relation-index in
    let r = c.relation-item.result in
    let given = c.as_slice-relation-items.ensures in
    let within : k < length rs = omega (arith, c.loop-relation-test.true, ap length given) in
    let is : r ≡ get_or rs k r = c.relation-item.is ∙ ap (λ (ss : List (List Term)). get_or ss k r) given in
    let before = triples_from weights d 1 (take k rs) in
    let more : length (triples_from weights d 1 (take (k + 1) rs)) ≡ length before + length (triples_at weights d (1 + k) r) =
    ap length (triples_from-take weights d 1 rs k r within is) ∙ length-append before (triples_at weights d (1 + k) r) in
    omega (arith, c.saturating_add-count.ensures, c.count_at.ensures (1 + k), c.loop-relation.invariant, more)
