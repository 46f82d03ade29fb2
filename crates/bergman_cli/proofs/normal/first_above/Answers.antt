use Rattle.std.proofs.Common.{◌≡◌, ◌<◌, ◌≤◌, [], ℕ, arith, min, rules, subst, ◌∙◌}
use Rattle.std.proofs.lemmas.List.{get_or_default}
use Rattle.ideal_laws.specs.Kept.{lead_degree}
use Rattle.bergman_cli.specs.Normal.{IsAbove}
use Rattle.bergman_cli.proofs.Places.{none_next}
use Rattle.bergman_cli.proofs.normal.first_above.Goals as goal

degree_above : (n bound degree : ℕ) → n ≡ min degree 65 → bound < n → bound < degree
degree_above n bound degree is above = omega (arith, is, above)

not_above : (n bound degree : ℕ) → n ≡ min degree 65 → bound ≤ 64 → n ≤ bound → bound < degree → ⊥
not_above n bound degree is few below above = omega (arith, is, few, below, above)

pub returns-then-lead_degree_within-bound : goal.returns-then-lead_degree_within-bound
returns-then-lead_degree_within-bound c =
    let weights = c.args.alphabet.now.weights in
    let bound = c.args.bound in
    let f = c.index-questions-place.result in
    let above : bound < c.lead_degree_within.result = search rules in
    record {
      within = c.loop-place-test.true;
      here = subst (IsAbove weights bound) (c.index-questions-place.is
          ∙ get_or_default c.args.questions.now c.loop-place.place f [] c.loop-place-test.true)
          (degree_above c.lead_degree_within.result bound (lead_degree weights f) c.lead_degree_within.ensures above);
      before = c.loop-place.invariant;
    }

pub loop-place-preserved : goal.loop-place-preserved
loop-place-preserved c =
    let weights = c.args.alphabet.now.weights in
    let bound = c.args.bound in
    let questions = c.args.questions.now in
    let place = c.loop-place.place in
    let f = c.index-questions-place.result in
    let below : c.lead_degree_within.result ≤ bound = search rules in
    none_next (IsAbove weights bound) questions place f (c.index-questions-place.is
    ∙ get_or_default questions place f [] c.loop-place-test.true) c.loop-place.invariant
    (not_above c.lead_degree_within.result bound (lead_degree weights f) c.lead_degree_within.ensures c.requires.bound below)
