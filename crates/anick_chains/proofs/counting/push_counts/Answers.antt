use Rattle.std.proofs.Common.{◌≡◌, ◌+◌, ◌-◌, ◌++◌, ℕ, List, arith, sym, ap, ◌∙◌, append_assoc}
use Rattle.std.specs.List.{flat_map, range_with_len}
use Rattle.overlaps.proofs.Sums.{joined-more}
use Rattle.anick_chains.specs.declared.tally.ChainCount.{ChainCount}
use Rattle.anick_chains.specs.Tallies.{count_of, number_of}
use Rattle.anick_chains.proofs.counting.push_counts.Goals as goal

pub loop-size-preserved : goal.loop-size-preserved
loop-size-preserved c =
    let f = λ (n : ℕ). count_of c.args.degree n (number_of n c.args.tallies.now) in
    let n = c.loop-size.size - 1 in
    let old = c.args.counts.now.items in
    let next : c.loop-size.size + 1 - 1 ≡ n + 1 = omega (arith, c.loop-size.auto.size) in
    let at : 1 + n ≡ c.loop-size.size = omega (arith, c.loop-size.auto.size) in
    let pushed : c.push_count.new.counts.items ≡ c.loop-size.counts.items ++ f c.loop-size.size =
    c.in_ok-push_count.ensures ∙ ap (λ (k : ℕ). c.loop-size.counts.items ++ count_of c.args.degree c.loop-size.size k) c.number_of.ensures in
    pushed ∙ ap (λ (xs : List ChainCount). xs ++ f c.loop-size.size) c.loop-size.invariant
    ∙ append_assoc old (flat_map f (range_with_len 1 n)) (f c.loop-size.size)
    ∙ ap (λ (xs : List ChainCount). old ++ xs) (ap (λ (k : ℕ). flat_map f (range_with_len 1 n) ++ f k) (sym at) ∙ sym (joined-more f 1 n)
    ∙ ap (λ (k : ℕ). flat_map f (range_with_len 1 k)) (sym next))
