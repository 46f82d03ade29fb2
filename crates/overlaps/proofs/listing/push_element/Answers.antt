use Rattle.std.proofs.Common.{◌≡◌, ◌+◌, ◌-◌, ◌++◌, ◌<◌, ◌≤◌, ℕ, List, Err, arith, length, map, take, get_or, refl, sym, ap, ◌∙◌, length-append}
use Rattle.std.proofs.lemmas.List.{length-map}
use Rattle.words.specs.Words.{degree_of, weight_of}
use Rattle.words.proofs.Faults.{same_fault}
use Rattle.words.proofs.Weights.{degree_of-more, degree_of-take}
use Rattle.ideal_laws.specs.Closure.{Overlap}
use Rattle.overlaps.specs.Listed.{obstruction_of}
use Rattle.overlaps.specs.Walk.{block, lead_word}
use Rattle.overlaps.proofs.Places.{lead_word-bounds}
use Rattle.overlaps.proofs.Sums.{appended, blocks_upto, joined-many, joined-more}
use Rattle.overlaps.proofs.listing.push_element.Goals as goal

-- the degree of one letter more
degree_at : (weights w : List ℕ) (at before one weight : ℕ) → 1 ≤ at → at < length w → before ≡ degree_of weights (take (at - 1) w) →
    one ≡ weight → weight ≡ weight_of weights (get_or w (at - 1) 0)
    → before + one ≡ degree_of weights (take at w)
degree_at weights w at before one weight from under so_far is value =
    let next : (at - 1) + 1 ≡ at = omega (arith, from) in
    omega (arith, degree_of-more weights w (at - 1) (omega (arith, from, under)), ap (λ (k : ℕ). degree_of weights (take k w)) next, so_far, is, value)

pub overflow_add-degree : goal.overflow_add-degree
overflow_add-degree c =
    let b = c.args.basis.now in
    omega (
      arith,
      c.loop-before.invariant.degree,
      degree_of-take b.weights (lead_word b.elements c.args.left) (c.loop-before.before - 1),
      (lead_word-bounds b c.lead_at-lead.ensures.kept c.args.left c.requires.place).1,
      c.weight.ensures.small,
      c.from-degree.ensures,
    )

pub returns-in_err-push_block-clause-many : goal.returns-in_err-push_block-clause-many
returns-in_err-push_block-clause-many c = λ e.
    let b = c.args.basis.now in
    let w = lead_word b.elements c.args.left in
    let at = c.loop-before.before in
    let more : c.args.most < length c.loop-before.found.items + length (block b.weights b.elements c.args.left at c.saturating_sub-rest.result) =
    c.in_err-push_block.ensures.many (ap Err (same_fault c.from_residual.result _ _ c.from_residual.ensures.1 e)) in
    let value = c.weight.ensures.value ∙ ap (λ (v : List ℕ). weight_of b.weights (get_or v (at - 1) 0)) c.lead_at-lead.ensures.lead in
    let degree : c.loop-before.degree + c.from-degree.result ≡ degree_of b.weights (take at w) =
    degree_at b.weights w at _ _ _ c.loop-before.auto.before (omega (arith, c.loop-before-test.true, ap length c.lead_at-lead.ensures.lead))
    c.loop-before.invariant.degree c.from-degree.ensures value in
    let rest = c.saturating_sub-rest.ensures ∙ ap (λ (n : ℕ). c.args.d - n) degree in
    let os = blocks_upto b.weights b.elements c.args.d c.args.left (at - 1) in
    let size = ap length c.loop-before.invariant.so_far ∙ length-append c.args.found.now.items (map obstruction_of os) in
    let all = joined-many (λ k. block b.weights b.elements c.args.left k (c.args.d - degree_of b.weights (take k w))) 1 (at - 1)
    (length w - 1) (c.args.most - length c.args.found.now.items) (length os) at
    (omega (arith, c.loop-before.auto.before, c.loop-before-test.true, ap length c.lead_at-lead.ensures.lead)) (omega (arith, c.loop-before.auto.before)) refl
    (omega (arith, more, size, length-map os obstruction_of, ap (λ (n : ℕ). length (block b.weights b.elements c.args.left at n)) rest)) in
    omega (arith, all, c.requires.few)

pub loop-before-preserved : goal.loop-before-preserved
loop-before-preserved c =
    let b = c.args.basis.now in
    let w = lead_word b.elements c.args.left in
    let at = c.loop-before.before in
    let value = c.weight.ensures.value ∙ ap (λ (v : List ℕ). weight_of b.weights (get_or v (at - 1) 0)) c.lead_at-lead.ensures.lead in
    let degree : c.loop-before.degree + c.from-degree.result ≡ degree_of b.weights (take at w) =
    degree_at b.weights w at _ _ _ c.loop-before.auto.before (omega (arith, c.loop-before-test.true, ap length c.lead_at-lead.ensures.lead))
    c.loop-before.invariant.degree c.from-degree.ensures value in
    let rest = c.saturating_sub-rest.ensures ∙ ap (λ (n : ℕ). c.args.d - n) degree in
    let next : at + 1 - 1 ≡ at = omega arith in
    let from : (at - 1) + 1 ≡ at = omega (arith, c.loop-before.auto.before) in
    let to : 1 + (at - 1) ≡ at = omega (arith, c.loop-before.auto.before) in
    let f : ℕ → List Overlap = λ k. block b.weights b.elements c.args.left k (c.args.d - degree_of b.weights (take k w)) in
    let grown : blocks_upto b.weights b.elements c.args.d c.args.left (at + 1 - 1)
    ≡ blocks_upto b.weights b.elements c.args.d c.args.left (at - 1)
    ++ block b.weights b.elements c.args.left at c.saturating_sub-rest.result =
    ap (blocks_upto b.weights b.elements c.args.d c.args.left) (next ∙ sym from) ∙ joined-more f 1 (at - 1)
    ∙ ap (λ (os : List Overlap). blocks_upto b.weights b.elements c.args.d c.args.left (at - 1) ++ os)
    (ap f to ∙ ap (block b.weights b.elements c.args.left at) (sym rest)) in
    record {
      degree = degree ∙ ap (λ (k : ℕ). degree_of b.weights (take k w)) (sym next);
      so_far = appended c.args.found.now.items _ _ _ _ _ c.loop-before.invariant.so_far c.in_ok-push_block.ensures.block grown;
      within = c.in_ok-push_block.ensures.within;
    }
