use Rattle.std.proofs.Common.{◌≤◌, ◌==◌, ℕ, Bool, true, false, cond, arith, ap}
use Rattle.std.proofs.lemmas.List.Sums.{sum_by_more_le_part}
use Rattle.anick_chains.specs.declared.tally.Tally.{Tally}
use Rattle.anick_chains.proofs.counting.number_of.Goals as goal

part_of : (b : Bool) (k : ℕ) → cond b k 0 ≤ k
part_of true k = omega arith
part_of false k = omega arith

pub overflow_add-number : goal.overflow_add-number
overflow_add-number c =
    omega (
      arith,
      sum_by_more_le_part (λ (t : Tally). cond (t.size == c.args.size) t.count 0) (λ (t : Tally). t.count) c.args.tallies.now c.loop-tally.tally-index
          c.tally-item.result c.loop-tally-test.true (λ t. part_of (t.size == c.args.size) t.count),
      c.loop-tally.invariant,
      ap (λ (t : Tally). t.count) c.tally-item.is,
      c.requires.small,
    )
