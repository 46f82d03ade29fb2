use Rattle.std.proofs.Common.{◌≡◌, ◌++◌, ◌-◌, ◌≤◌, ℕ, List, arith, length, take, drop, subst, false, true, sym, ap, ◌∙◌, append-nil}
use Rattle.std.proofs.Common.{append_assoc, length-drop}
use Rattle.words.proofs.Weights.{length-le-degree_of}
use Rattle.overlaps.specs.Walk.{IsAbove, lead_word}
use Rattle.overlaps.proofs.Fronts.{begins_as, occurs_as, rest-all}
use Rattle.overlaps.proofs.Places.{falls_in_degree, in_degree}
use Rattle.anick_chains.specs.BasisTips.{leads_of}
use Rattle.anick_chains.specs.Walk.{end_of, unless_stands}
use Rattle.anick_chains.proofs.Members.{joined}
use Rattle.anick_chains.proofs.Runs.{run_begins, run_ends, run_goes_on, run_stops}
use Rattle.anick_chains.proofs.next.push_ends.Goals as goal

pub first_place-place-requires-clause-falling : goal.first_place-place-requires-clause-falling
first_place-place-requires-clause-falling c =
    let b = c.args.tips.now.basis.now in
    let e = c.of_degree-first.ensures in
    λ i j from before under. falls_in_degree b c.requires.tips.kept c.args.d (omega (arith, e.upto, e.within.1)) i j
    (omega (arith, from, e.below)) before (omega (arith, under, e.upto))

pub push_end-requires-clause-small : goal.push_end-requires-clause-small
push_end-requires-clause-small c =
    let b = c.args.tips.now.basis.now in
    let e = c.of_degree-first.ensures in
    let k = c.loop-place.place in
    let degree = in_degree b c.requires.tips.kept c.args.d k (omega
    (arith, e.below, c.first_place-place.ensures.from, c.loop-place.auto.place)) (omega (arith, e.upto, c.loop-place-test.true))
    (omega (arith, e.within.1, c.loop-place-test.true)) in
    let small : length (lead_word b.elements k) ≤ c.args.d = omega
    (arith, degree, length-le-degree_of b.weights c.requires.tips.kept.weights (lead_word b.elements k)) in
    let shared : length (take (length c.args.piece.now - c.args.before) (drop c.args.before c.args.piece.now))
    ≡ length c.args.piece.now - c.args.before = ap length (rest-all c.args.piece.now c.args.before)
    ∙ length-drop c.args.before c.args.piece.now in
    let n = length (take (length c.args.piece.now - c.args.before) (drop c.args.before c.args.piece.now)) in
    let rest = ap length (rest-all c.lead_at-tip.result.now n) ∙ length-drop n c.lead_at-tip.result.now in
    omega (
      arith,
      c.requires.room,
      c.requires.split,
      small,
      shared,
      rest,
      ap length c.lead_at-tip.ensures.lead,
      (c.occurs_at.ensures.0 c.if-not-occurs_at.false).within,
    )

pub loop-place-init : goal.loop-place-init
loop-place-init c =
    let b = c.args.tips.now.basis.now in
    let e = c.of_degree-first.ensures in
    let f = c.first_place-place.ensures in
    let none = run_begins b c.requires.tips.kept c.args.piece.now c.args.before c.args.d c.of_degree-first.result.0
    c.of_degree-first.result.1 e.below e.upto e.within.1 c.first_place-place.result f.upto
    (λ k from under. subst (λ (w : List ℕ). IsAbove w (lead_word b.elements k)) (rest-all c.args.piece.now c.args.before) (f.above k from under)) in
    sym (ap (λ (rs : List (List ℕ)). c.args.found.now.items ++ rs) none ∙ append-nil c.args.found.now.items)

pub returns-then-not-occurs_at : goal.returns-then-not-occurs_at
returns-then-not-occurs_at c =
    let b = c.args.tips.now.basis.now in
    let e = c.of_degree-first.ensures in
    let f = c.first_place-place.ensures in
    let k = c.loop-place.place in
    let shared = rest-all c.args.piece.now c.args.before in
    let other : take (length (drop c.args.before c.args.piece.now)) (lead_word b.elements k) ≡ drop c.args.before c.args.piece.now → ⊥ = λ is.
    let t : c.occurs_at.result ≡ true = c.occurs_at.ensures.1 (occurs_as _ _ _ _ shared c.lead_at-tip.ensures.lead is) in
    let u : c.occurs_at.result ≡ false = c.if-not-occurs_at.true in cc in
    let all = run_stops b c.requires.tips.kept c.args.piece.now c.args.before c.args.d c.of_degree-first.result.0
    c.of_degree-first.result.1 e.below e.upto e.within.1 k (omega (arith, f.from, c.loop-place.auto.place)) c.loop-place-test.true
    (λ h. f.others k c.loop-place.auto.place c.loop-place-test.true (subst (λ (w : List ℕ). IsAbove w (lead_word b.elements k)) (sym shared) h)) other in
    c.loop-place.invariant ∙ ap (λ (rs : List (List ℕ)). c.args.found.now.items ++ rs) all

pub loop-place-preserved : goal.loop-place-preserved
loop-place-preserved c =
    let b = c.args.tips.now.basis.now in
    let e = c.of_degree-first.ensures in
    let k = c.loop-place.place in
    let shared = rest-all c.args.piece.now c.args.before in
    let begins = begins_as _ _ _ _ shared c.lead_at-tip.ensures.lead (c.occurs_at.ensures.0 c.if-not-occurs_at.false) in
    let more = run_goes_on b c.requires.tips.kept c.args.piece.now c.args.before c.args.d c.of_degree-first.result.0
    c.of_degree-first.result.1 e.below e.upto e.within.1 k (omega (arith, c.first_place-place.ensures.from, c.loop-place.auto.place))
    c.loop-place-test.true begins in
    let n = length (take (length c.args.piece.now - c.args.before) (drop c.args.before c.args.piece.now)) in
    let rest : take (length c.lead_at-tip.result.now - n) (drop n c.lead_at-tip.result.now)
    ≡ drop (length (drop c.args.before c.args.piece.now)) (lead_word b.elements k) =
    rest-all c.lead_at-tip.result.now n ∙ ap (λ (w : List ℕ). drop (length w) c.lead_at-tip.result.now) shared
    ∙ ap (drop (length (drop c.args.before c.args.piece.now))) c.lead_at-tip.ensures.lead in
    c.in_ok-push_end.ensures ∙ ap (λ (rs : List (List ℕ)). rs ++ unless_stands (leads_of b.elements) c.args.piece.now
    (take (length c.lead_at-tip.result.now - n) (drop n c.lead_at-tip.result.now))) c.loop-place.invariant
    ∙ append_assoc c.args.found.now.items _ _ ∙ ap (λ (rs : List (List ℕ)). c.args.found.now.items ++ rs)
    (ap (λ (w : List ℕ). joined (end_of b.weights b.elements c.args.piece.now c.args.before c.args.d) k
    ++ unless_stands (leads_of b.elements) c.args.piece.now w) rest ∙ sym more)

pub returns : goal.returns
returns c =
    let b = c.args.tips.now.basis.now in
    let e = c.of_degree-first.ensures in
    let last : c.loop-place.place ≡ c.of_degree-first.result.1 = omega
    (arith, c.loop-place-test.false, c.loop-place.auto.place-end c.first_place-place.ensures.upto) in
    let all = run_ends b c.requires.tips.kept c.args.piece.now c.args.before c.args.d c.of_degree-first.result.0
    c.of_degree-first.result.1 e.below e.upto e.within.1 in
    c.loop-place.invariant ∙ ap (λ (rs : List (List ℕ)). c.args.found.now.items ++ rs)
    (ap (joined (end_of b.weights b.elements c.args.piece.now c.args.before c.args.d)) last ∙ all)
