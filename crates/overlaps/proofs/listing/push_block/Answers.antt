use Rattle.std.proofs.Common.{◌≡◌, ◌++◌, ◌∷◌, [], ℕ, List, arith, length, map, take, drop, subst, false, true, sym, ap, ◌∙◌, rules, length-append}
use Rattle.std.proofs.lemmas.List.{append-nil, length-map}
use Rattle.ideal_laws.specs.Closure.{Overlap}
use Rattle.overlaps.specs.Listed.{obstruction_of}
use Rattle.overlaps.specs.Walk.{IsAbove, lead_word, overlap_at, shared_at}
use Rattle.overlaps.proofs.Blocks.{block_upto, none_before, upto_end, upto_longer, upto_met, upto_other}
use Rattle.overlaps.proofs.Fronts.{begins_as, occurs_as, rest-all}
use Rattle.overlaps.proofs.Places.{falls_in_degree}
use Rattle.overlaps.proofs.Sums.{appended}
use Rattle.overlaps.proofs.listing.push_block.Goals as goal

pub first_place-right-requires-clause-falling : goal.first_place-right-requires-clause-falling
first_place-right-requires-clause-falling c =
    let b = c.args.basis.now in
    let e = c.of_degree-first.ensures in
    λ i j from before under. falls_in_degree b c.lead_at.ensures.kept c.args.rest (omega (arith, e.upto, e.within.1)) i j
    (omega (arith, from, e.below)) before (omega (arith, under, e.upto))

pub loop-right-init : goal.loop-right-init
loop-right-init c =
    let b = c.args.basis.now in
    let e = c.of_degree-first.ensures in
    let f = c.first_place-right.ensures in
    let shared = rest-all c.lead_at.result.now c.args.before ∙ ap (drop c.args.before) c.lead_at.ensures.lead in
    let none = none_before b c.lead_at.ensures.kept c.args.left c.args.before c.args.rest c.of_degree-first.result.0
    c.of_degree-first.result.1 e.below e.upto e.within.1 c.first_place-right.result f.upto
    (λ k from under. subst (λ (w : List ℕ). IsAbove w (lead_word b.elements k)) shared (f.above k from under)) in
    record {
      so_far = sym (ap (λ (os : List Overlap). c.args.found.now.items ++ map obstruction_of os) none
          ∙ append-nil c.args.found.now.items);
      within = c.requires.few;
    }

pub returns-then-not-occurs_at-clause-block : goal.returns-then-not-occurs_at-clause-block
returns-then-not-occurs_at-clause-block c =
    let b = c.args.basis.now in
    let e = c.of_degree-first.ensures in
    let f = c.first_place-right.ensures in
    let right = c.loop-right.right in
    let shared = rest-all c.lead_at.result.now c.args.before ∙ ap (drop c.args.before) c.lead_at.ensures.lead in
    let other : take (length (shared_at b.elements c.args.left c.args.before)) (lead_word b.elements right)
    ≡ shared_at b.elements c.args.left c.args.before → ⊥ = λ is.
    let t : c.occurs_at.result ≡ true = c.occurs_at.ensures.1 (occurs_as _ _ _ _ shared c.lead_at-in-loop-right.ensures.lead is) in
    let u : c.occurs_at.result ≡ false = c.if-not-occurs_at.true in cc in
    let all = upto_other b c.lead_at.ensures.kept c.args.left c.args.before c.args.rest c.of_degree-first.result.0
    c.of_degree-first.result.1 e.below e.upto e.within.1 right (omega (arith, f.from, c.loop-right.auto.right)) c.loop-right-test.true
    (λ h. f.others right c.loop-right.auto.right c.loop-right-test.true
    (subst (λ (w : List ℕ). IsAbove w (lead_word b.elements right)) (sym shared) h)) other in
    c.loop-right.invariant.so_far ∙ ap (λ (os : List Overlap). c.args.found.now.items ++ map obstruction_of os) all

pub returns-then-len-most-clause-many : goal.returns-then-len-most-clause-many
returns-then-len-most-clause-many c = λ _.
    let b = c.args.basis.now in
    let e = c.of_degree-first.ensures in
    let f = c.first_place-right.ensures in
    let right = c.loop-right.right in
    let shared = rest-all c.lead_at.result.now c.args.before ∙ ap (drop c.args.before) c.lead_at.ensures.lead in
    let begins = begins_as _ _ _ _ shared c.lead_at-in-loop-right.ensures.lead (c.occurs_at.ensures.0 c.if-not-occurs_at.false) in
    let longer = upto_longer b c.lead_at.ensures.kept c.args.left c.args.before c.args.rest c.of_degree-first.result.0
    c.of_degree-first.result.1 e.below e.upto e.within.1 right (omega (arith, f.from, c.loop-right.auto.right)) c.loop-right-test.true
    begins in
    let os = block_upto b.weights b.elements c.args.left c.args.before c.args.rest right in
    let size : c.len.result ≡ length c.loop-right.found.items = search rules in
    omega (
      arith,
      longer,
      c.if-len-most.true,
      size,
      ap length c.loop-right.invariant.so_far,
      length-append c.args.found.now.items (map obstruction_of os),
      length-map os obstruction_of,
    )

pub loop-right-preserved : goal.loop-right-preserved
loop-right-preserved c =
    let b = c.args.basis.now in
    let e = c.of_degree-first.ensures in
    let f = c.first_place-right.ensures in
    let right = c.loop-right.right in
    let shared = rest-all c.lead_at.result.now c.args.before ∙ ap (drop c.args.before) c.lead_at.ensures.lead in
    let begins = begins_as _ _ _ _ shared c.lead_at-in-loop-right.ensures.lead (c.occurs_at.ensures.0 c.if-not-occurs_at.false) in
    let met = upto_met b c.lead_at.ensures.kept c.args.left c.args.before c.args.rest c.of_degree-first.result.0 c.of_degree-first.result.1
    e.below e.upto e.within.1 right (omega (arith, f.from, c.loop-right.auto.right)) c.loop-right-test.true begins in
    let size : c.len.result ≡ length c.loop-right.found.items = search rules in
    record {
      so_far = appended c.args.found.now.items _ _ _ (overlap_at b.elements c.args.left c.args.before right ∷ []) _
          c.loop-right.invariant.so_far c.in_ok-push_overlap.ensures met;
      within = omega (
        arith,
        c.if-len-most.false,
        size,
        ap length c.in_ok-push_overlap.ensures,
        length-append c.loop-right.found.items (obstruction_of (overlap_at b.elements c.args.left c.args.before right) ∷ []),
      );
    }

pub returns-clause-block : goal.returns-clause-block
returns-clause-block c =
    let b = c.args.basis.now in
    let e = c.of_degree-first.ensures in
    let last : c.loop-right.right ≡ c.of_degree-first.result.1 = omega
    (arith, c.loop-right-test.false, c.loop-right.auto.right-end c.first_place-right.ensures.upto) in
    let all = upto_end b c.lead_at.ensures.kept c.args.left c.args.before c.args.rest c.of_degree-first.result.0 c.of_degree-first.result.1
    e.below e.upto e.within.1 in
    c.loop-right.invariant.so_far ∙ ap (λ (os : List Overlap). c.args.found.now.items ++ map obstruction_of os)
    (ap (block_upto b.weights b.elements c.args.left c.args.before c.args.rest) last ∙ all)
