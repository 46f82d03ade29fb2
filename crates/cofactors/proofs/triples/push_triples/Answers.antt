use Rattle.std.proofs.Common.{◌≡◌, ◌+◌, ◌-◌, ◌++◌, [], List, map, ap, ◌∙◌, arith}
use Rattle.std.specs.List.{flat_map}
use Rattle.std.proofs.lemmas.List.{get_or_read}
use Rattle.degree_words.specs.Lists.{list_at}
use Rattle.cofactors.specs.declared.product.Product.{Product}
use Rattle.cofactors.specs.ProductList.{numbers_below, round_triples, triple}
use Rattle.cofactors.proofs.TripleCounts.{one_fewer, rounds_listed}
use Rattle.cofactors.proofs.triples.push_triples.Goals as goal

pub loop-behind-preserved : goal.loop-behind-preserved
loop-behind-preserved c =
    let weights = c.args.alphabet.now.weights in
    let i = c.args.number in
    let n = c.args.d - c.lead_degree_within-degree.result in
    let b = c.loop-behind.behind in
    let lists = c.in_ok-lists.lists.items in
    let size = c.in_ok-lists.ensures.size in
    let old = c.loop-behind.found.items in
    let rest = flat_map (round_triples weights i n) (numbers_below (n + 1 - (b + 1))) in
    let lefts : c.as_slice-lefts.result.now ≡ list_at lists (n - b) = c.as_slice-lefts.ensures
    ∙ get_or_read lists (n - b) c.index.result.now (omega (arith, size, c.loop-behind-test.true)) c.index.ensures [] in
    let rights : c.as_slice-rights.result.now ≡ list_at lists b = c.as_slice-rights.ensures
    ∙ get_or_read lists b c.index-in-loop-behind.result.now (omega (arith, size, c.loop-behind-test.true))
    c.index-in-loop-behind.ensures [] in
    let rounds = rounds_listed weights i n (n - b) b lists c.in_ok-lists.ensures (omega (arith, c.loop-behind-test.true)) in
    ap (λ (qs : List Product). qs ++ rest) (c.in_ok-push_rounds.ensures
    ∙ (λ j. old ++ flat_map (λ u. map (triple i u) (rights j)) (lefts j)) ∙ ap (λ (qs : List Product). old ++ qs) rounds)
    ∙ one_fewer (round_triples weights i n) old (n - b) (n + 1 - b) (n + 1 - (b + 1)) (omega (arith, c.loop-behind-test.true)) (omega arith)
    ∙ c.loop-behind.invariant
