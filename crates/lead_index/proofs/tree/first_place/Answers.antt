use Rattle.std.proofs.Common.{List, None, Some, ℕ, arith, below_more, drop, refl, subst}
use Rattle.lead_index.specs.Tree.{IsMissed, Meets}
use Rattle.lead_index.proofs.Answering.{answered}
use Rattle.lead_index.proofs.LeadLemmas.{first_place, free_from_places, take-drop_rest}
use Rattle.lead_index.proofs.tree.first_place.Goals as goal

pub loop-at-preserved : goal.loop-at-preserved
loop-at-preserved c = below_more (λ k. IsMissed c.args.nodes.now 0 (drop k c.args.word.now)) c.loop-at.at c.loop-at.invariant
    (subst (IsMissed c.args.nodes.now 0) (take-drop_rest c.args.word.now c.loop-at.at) c.in_default.ensures)

pub returns-in-Some : goal.returns-in-Some
returns-in-Some c = λ leads index tree.
    let w = c.args.word.now in
    let at = c.loop-at.at in
    first_place leads w at c.in-Some.element
    (λ k lt. answered c.args.nodes.now leads w (drop k w) k index tree (omega (arith, lt)) refl None (c.loop-at.invariant k lt))
    (answered c.args.nodes.now leads w (drop at w) at index tree (omega arith) refl (Some c.in-Some.element)
    (subst (λ (xs : List ℕ). Meets c.args.nodes.now xs c.in-Some.element) (take-drop_rest w at) c.in-Some.ensures))

pub returns : goal.returns
returns c = λ leads index tree.
    let w = c.args.word.now in
    free_from_places leads index w
    (λ k lt. answered c.args.nodes.now leads w (drop k w) k index tree (omega (arith, lt)) refl None (c.loop-at.invariant k (omega arith)))
