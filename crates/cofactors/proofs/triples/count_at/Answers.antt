use Rattle.std.proofs.Common.{◌≡◌, ◌-◌, ◌*◌, ◌^◌, ℕ, length, get_or, min, sym, ap, ◌∙◌, arith}
use Rattle.words.specs.Words.{words_of_degree}
use Rattle.ideal_laws.specs.Kept.{lead_degree}
use Rattle.cofactors.specs.ProductList.{round_triples}
use Rattle.cofactors.proofs.TripleCounts.{count_one_more, length-rounds, product_within}
use Rattle.cofactors.proofs.triples.count_at.Goals as goal

pub loop-before-preserved : goal.loop-before-preserved
loop-before-preserved c = λ i.
    let weights = c.args.alphabet.now.weights in
    let counts = c.args.counts.now in
    let d = c.args.d in
    let e = lead_degree weights c.args.relation.now in
    let k = c.loop-before.before in
    let degree : c.lead_degree_within-degree.result ≡ e = omega (arith, c.lead_degree_within-degree.ensures, c.loop-before-test.true) in
    let words = λ (n : ℕ). length (words_of_degree weights n) in
    let lefts : get_or counts k 0 ≡ min (words k) (2 ^ 64 - 1) = c.requires.counts.counted k (omega (arith, c.loop-before-test.true)) in
    let rights : get_or counts (d - c.lead_degree_within-degree.result - k) 0 ≡ min (words (d - e - k)) (2 ^ 64 - 1) =
    ap (λ (n : ℕ). get_or counts (d - n - k) 0) degree ∙ c.requires.counts.counted (d - e - k) (omega arith) in
    let rounds : c.saturating_mul.result ≡ min (length (round_triples weights i (d - e) k)) (2 ^ 64 - 1) =
    c.saturating_mul.ensures ∙ (λ j. min (lefts j * rights j) (2 ^ 64 - 1)) ∙ product_within (2 ^ 64 - 1) (words k) (words (d - e - k)) (omega arith)
    ∙ ap (λ (n : ℕ). min n (2 ^ 64 - 1)) (sym (length-rounds weights i (d - e) k)) in
    c.saturating_add-count.ensures
    ∙ count_one_more (round_triples weights i (d - e)) k (2 ^ 64 - 1) c.loop-before.count c.saturating_mul.result (c.loop-before.invariant i) rounds
