use Rattle.std.proofs.Common.{Err, arith, ap}
use Rattle.std.specs.List.{sum_by}
use Rattle.std.proofs.lemmas.List.{take_all}
use Rattle.std.proofs.lemmas.List.Sums.{sum_by_more_le}
use Rattle.words.proofs.Faults.{same_fault}
use Rattle.anick_chains.specs.declared.tally.Tally.{Tally}
use Rattle.anick_chains.specs.Tallies.{longer_tallies, tally_total}
use Rattle.anick_chains.proofs.Sums.{sum_by-flat_map}
use Rattle.anick_chains.proofs.tallies.push_longer.Goals as goal

pub returns-in_err-push_next-clause-many : goal.returns-in_err-push_next-clause-many
returns-in_err-push_next-clause-many c = λ d e.
    let b = c.args.tips.now.basis.now in
    let g = λ (t : Tally). tally_total (longer_tallies b.weights b.elements c.args.degree t) in
    let m = c.in_err-push_next.ensures.many d (ap Err (same_fault c.from_residual.result _ _ c.from_residual.ensures.1 e)) in (
      m.0,
      omega (
        arith,
        m.1,
        c.loop-tally.invariant.total,
        sum_by_more_le g c.args.below.now c.loop-tally.tally-index c.tally-item.result c.loop-tally-test.true,
        ap g c.tally-item.is,
        sum_by-flat_map (λ (t : Tally). t.count) (longer_tallies b.weights b.elements c.args.degree) c.args.below.now,
      ),
    )

pub returns-clause-total : goal.returns-clause-total
returns-clause-total c =
    let b = c.args.tips.now.basis.now in
    let g = λ (t : Tally). tally_total (longer_tallies b.weights b.elements c.args.degree t) in
    omega (
      arith,
      c.loop-tally.invariant.total,
      ap (sum_by g) (take_all c.loop-tally.tally-index c.args.below.now c.loop-tally-test.false),
      sum_by-flat_map (λ (t : Tally). t.count) (longer_tallies b.weights b.elements c.args.degree) c.args.below.now,
    )
