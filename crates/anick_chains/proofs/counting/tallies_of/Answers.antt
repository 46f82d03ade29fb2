use Rattle.std.proofs.Common.{◌≡◌, ◌<◌, List, All, arith, rules, subst, sym, ap}
use Rattle.std.specs.List.{flat_map}
use Rattle.std.proofs.lemmas.List.Sums.{sum_by-append}
use Rattle.anick_chains.specs.declared.tally.Tally.{Tally}
use Rattle.anick_chains.specs.Tallies.{longer_tallies, tallies_at, tallies_with, tally_total}
use Rattle.anick_chains.specs.Walk.{free_letters}
use Rattle.anick_chains.proofs.Tells.{tallies_some}
use Rattle.anick_chains.proofs.counting.tallies_of.Goals as goal

pub merged-requires-clause-small : goal.merged-requires-clause-small
merged-requires-clause-small c =
    let b = c.args.tips.now.basis.now in
    let whole : c.push_longer.new.block.items ≡ tallies_at b.weights b.elements c.args.degree c.args.below.now = search rules in
    omega (
      arith,
      c.in_ok-push_letters.ensures.total,
      c.in_ok-push_longer.ensures.total,
      c.requires.small,
      ap tally_total whole,
      sum_by-append (λ (t : Tally). t.count) (tallies_with c.args.degree 1 1 (free_letters b.weights b.elements c.args.degree))
          (flat_map (longer_tallies b.weights b.elements c.args.degree) c.args.below.now),
    )

pub merged-requires-clause-some : goal.merged-requires-clause-some
merged-requires-clause-some c =
    let b = c.args.tips.now.basis.now in
    let whole : c.push_longer.new.block.items ≡ tallies_at b.weights b.elements c.args.degree c.args.below.now = search rules in
    subst (λ (ts : List Tally). All (λ (t : Tally). 0 < t.count) ts) (sym whole)
    (tallies_some b.weights b.elements c.args.degree c.args.below.now c.requires.below)
