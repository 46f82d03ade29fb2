use Rattle.std.proofs.Common.{◌≡◌, ◌+◌, ◌-◌, ◌++◌, All, Err, List, arith, rules, subst, sym, ap, ◌∙◌}
use Rattle.words.proofs.Faults.{same_fault}
use Rattle.anick_chains.specs.declared.tally.ChainCount.{ChainCount}
use Rattle.anick_chains.specs.declared.tally.Tally.{Tally}
use Rattle.anick_chains.specs.Tallies.{AreTalliedOf, IsTallyBelow, TellsSame, counts_at, tallies_at, tally_total}
use Rattle.anick_chains.proofs.Tallied.{more_number, tallied_more}
use Rattle.anick_chains.proofs.Tells.{tallies_below, total_same}
use Rattle.anick_chains.proofs.counting.count_degree.Goals as goal

pub tallies_of-requires-clause-below : goal.tallies_of-requires-clause-below
tallies_of-requires-clause-below c =
    let b = c.args.tips.now.basis.now in
    let h = c.requires.below in
    let next : c.args.degree ≡ (c.args.degree - 1) + 1 = omega (arith, c.requires.some) in
    subst (λ (ts : List Tally). All (IsTallyBelow b.weights c.args.degree) ts) (sym c.as_slice.ensures.value)
    (tallies_below b c.requires.tips.kept c.requires.tips.factor_free (c.args.degree - 1) h.chains h.listed c.args.degree next
    c.args.tallies.now.items h.tells h.some)

pub returns-in_err-block-clause-many : goal.returns-in_err-block-clause-many
returns-in_err-block-clause-many c = λ d e.
    let b = c.args.tips.now.basis.now in
    let next : c.args.degree ≡ (c.args.degree - 1) + 1 = omega (arith, c.requires.some) in
    let m = c.in_err-block.ensures.many d (ap Err (same_fault c.from_residual.result _ _ c.from_residual.ensures.1 e)) in (
      m.0,
      c.args.total.now + tally_total (tallies_at b.weights b.elements c.args.degree c.args.tallies.now.items),
      more_number b c.requires.tips.kept c.requires.tips.factor_free (c.args.degree - 1) c.args.total.now c.args.tallies.now.items c.args.counts.now.items
          c.requires.below c.args.degree next,
      omega (arith, m.1, c.requires.few, ap (λ (ts : List Tally). tally_total (tallies_at b.weights b.elements c.args.degree ts)) c.as_slice.ensures.value),
    )

pub push_counts-requires-clause-small : goal.push_counts-requires-clause-small
push_counts-requires-clause-small c =
    let b = c.args.tips.now.basis.now in
    omega (
      arith,
      c.in_ok-block.ensures.total,
      c.requires.few,
      c.ranges.most.fits,
      total_same c.in_ok-block.block.items (tallies_at b.weights b.elements c.args.degree c.as_slice.result.now) c.in_ok-block.ensures.same,
      ap tally_total c.as_slice-2.ensures.value,
    )

pub returns-clause-tallied : goal.returns-clause-tallied
returns-clause-tallied c =
    let b = c.args.tips.now.basis.now in
    let next : c.args.degree ≡ (c.args.degree - 1) + 1 = omega (arith, c.requires.some) in
    let block = c.in_ok-block.block.items in
    let same : TellsSame block (tallies_at b.weights b.elements c.args.degree c.args.tallies.now.items) =
    subst (λ (ts : List Tally). TellsSame block (tallies_at b.weights b.elements c.args.degree ts)) c.as_slice.ensures.value c.in_ok-block.ensures.same in
    let total : c.args.most - c.tallies_of.new.room
    ≡ c.args.total.now + tally_total (tallies_at b.weights b.elements c.args.degree c.args.tallies.now.items) = omega (
      arith,
      c.in_ok-block.ensures.total,
      c.requires.few,
      ap (λ (ts : List Tally). tally_total (tallies_at b.weights b.elements c.args.degree ts)) c.as_slice.ensures.value,
    ) in
    let whole : c.append.new.self.items ≡ c.args.tallies.now.items ++ block = search rules in
    let counts : c.push_counts.new.counts.items ≡ c.args.counts.now.items ++ counts_at c.args.degree block =
    c.in_ok-push_counts.ensures ∙ ap (λ (ts : List Tally). c.args.counts.now.items ++ counts_at c.args.degree ts) c.as_slice-2.ensures.value in
    subst (λ (ts : List Tally). AreTalliedOf b c.args.degree (c.args.most - c.tallies_of.new.room) ts c.push_counts.new.counts.items) (sym whole)
    (subst (λ (ks : List ChainCount). AreTalliedOf b c.args.degree (c.args.most - c.tallies_of.new.room)
    (c.args.tallies.now.items ++ block) ks) (sym counts)
    (tallied_more b c.requires.tips.kept c.requires.tips.factor_free (c.args.degree - 1) c.args.total.now c.args.tallies.now.items c.args.counts.now.items
    c.requires.below c.args.degree next block same c.in_ok-block.ensures.some (c.args.most - c.tallies_of.new.room) total))
