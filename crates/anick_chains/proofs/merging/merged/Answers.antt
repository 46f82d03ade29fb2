use Rattle.std.proofs.Common.{◌<◌, ℕ, All, List, arith, subst, sym, ap, ◌∙◌}
use Rattle.std.specs.List.{sum_by}
use Rattle.std.proofs.lemmas.List.{take_all}
use Rattle.std.proofs.lemmas.List.Sorted.{All-permutation, sum_by-IsPermutation}
use Rattle.std.proofs.lemmas.List.Sums.{sum_by_more_le}
use Rattle.anick_chains.specs.declared.tally.Tally.{Tally}
use Rattle.anick_chains.specs.Tallies.{tally_weight}
use Rattle.anick_chains.proofs.Tells.{tally_total-is}
use Rattle.anick_chains.proofs.merging.merged.Goals as goal

pub push_or_add-requires-clause-small : goal.push_or_add-requires-clause-small
push_or_add-requires-clause-small c =
    let one : ℕ → ℕ → List ℕ → ℕ = λ d n q. 1 in
    omega (
      arith,
      tally_total-is c.loop-tally.found.items,
      c.loop-tally.invariant.same one,
      sum_by_more_le (tally_weight one) c.as_slice-tally-items.result.now c.loop-tally.tally-index c.tally-item.result c.loop-tally-test.true,
      ap (tally_weight one) c.tally-item.is,
      ap (sum_by (tally_weight one)) c.as_slice-tally-items.ensures.value,
      sum_by-IsPermutation (tally_weight one) c.args.tallies.items c.sort.new.tallies.items c.sort.ensures,
      tally_total-is c.args.tallies.items,
      c.requires.small,
    )

pub push_or_add-requires-clause-more : goal.push_or_add-requires-clause-more
push_or_add-requires-clause-more c =
    let all : All (λ (t : Tally). 0 < t.count) c.as_slice-tally-items.result.now =
    subst (λ (ts : List Tally). All (λ (t : Tally). 0 < t.count) ts) (sym c.as_slice-tally-items.ensures.value)
    (All-permutation (λ (t : Tally). 0 < t.count) c.args.tallies.items c.sort.new.tallies.items c.sort.ensures c.requires.some) in
    subst (λ (t : Tally). 0 < t.count) (sym c.tally-item.is) (all c.loop-tally.tally-index c.tally-item.result c.loop-tally-test.true)

pub returns-clause-same : goal.returns-clause-same
returns-clause-same c = λ f.
    c.loop-tally.invariant.same f
    ∙ ap (sum_by (tally_weight f)) (take_all c.loop-tally.tally-index c.as_slice-tally-items.result.now c.loop-tally-test.false
    ∙ c.as_slice-tally-items.ensures.value)
    ∙ sum_by-IsPermutation (tally_weight f) c.args.tallies.items c.sort.new.tallies.items c.sort.ensures
