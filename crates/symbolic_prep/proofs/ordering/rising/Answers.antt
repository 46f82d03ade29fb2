use Rattle.std.proofs.Common.{◌≡◌, ◌-◌, ◌%◌, ℕ, List, map, rules, subst}
use Rattle.std.specs.Result.{IfOk}
use Rattle.std.proofs.lemmas.List.Sorted.{IsNonDecreasingBy-from_sort, IsNonDecreasingBy-from_sort_by_key}
use Rattle.symbolic_prep.proofs.Orders.{rising_pairs}
use Rattle.symbolic_prep.proofs.Summed.{summed_rising, with_pairs}
use Rattle.symbolic_prep.proofs.ordering.rising.Goals as goal

pub returns : goal.returns
returns c =
    let keys = c.args.keys.now in
    let sorted = c.sort_unstable_by_key.new.self.items in
    with_pairs keys sorted c.parted.result
    (rising_pairs keys c.in_ok-pairs.pairs.items sorted c.requires.apart c.in_ok-pairs.ensures.keys
    c.in_ok-pairs.ensures.numbers c.sort_unstable_by_key.ensures.permutation
    (IsNonDecreasingBy-from_sort_by_key (λ (p : ℕ × ℕ). p.0) sorted c.sort_unstable_by_key.ensures.sorted
    (λ a r q k. search rules)))
    (subst (λ (xs : List (ℕ × ℕ)). IfOk c.parted.result (λ parts. parts.0.items ≡ map (λ p. p.0) xs)) c.as_slice-2.ensures.value c.parted.ensures.keys)
    (subst (λ (xs : List (ℕ × ℕ)). IfOk c.parted.result (λ parts. parts.1.items ≡ map (λ p. p.1) xs)) c.as_slice-2.ensures.value c.parted.ensures.numbers)

pub returns-then-has_room : goal.returns-then-has_room
returns-then-has_room c =
    let keys = c.args.keys.now in
    let sorted = c.sort_unstable.new.self.items in
    summed_rising keys c.in_ok-sums.sums.items sorted c.split.result c.requires.apart c.in_ok-sums.ensures.keys c.in_ok-sums.ensures.numbers
    c.sort_unstable.ensures.permutation (IsNonDecreasingBy-from_sort (λ (n : ℕ). n) sorted c.sort_unstable.ensures.sorted)
    (subst (λ (xs : List ℕ). IfOk c.split.result (λ parts. parts.0.items ≡ map (λ s. s - s % 1048576) xs)) c.as_slice.ensures.value c.split.ensures.keys)
    (subst (λ (xs : List ℕ). IfOk c.split.result (λ parts. parts.1.items ≡ map (λ s. s % 1048576) xs)) c.as_slice.ensures.value c.split.ensures.numbers)
