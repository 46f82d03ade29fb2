use Rattle.std.proofs.Common.{◌≡◌, ◌+◌, ◌-◌, ◌%◌, ◌<◌, ℕ, map, [], ◌∷◌, ◌++◌, ap, ◌∙◌, sym, List, arith, get_or, take}
use Rattle.std.specs.List.{range_with_len}
use Rattle.std.proofs.lemmas.List.{map-append, take_more}
use Rattle.std.proofs.lemmas.List.FromFn.{map-range_with_len_more}
use Rattle.symbolic_prep.proofs.ordering.summed.Goals as goal

pub loop-number-preserved : goal.loop-number-preserved
loop-number-preserved c =
    let i = c.loop-number.number in
    let keys = c.args.keys.now in
    let key = get_or keys i 0 in
    let sum = key + i in
    let room : key % 1048576 ≡ 0 = c.requires.room i 0 (omega arith) in
    let few : i < 1048576 = omega (arith, c.requires.few) in
    let number : sum % 1048576 ≡ i = omega (arith, room, few) in
    let own : sum - sum % 1048576 ≡ key = omega (arith, number) in
    record {
      keys = ap (map (λ (s : ℕ). s - s % 1048576)) c.in_ok-push.ensures.items ∙ map-append (λ (s : ℕ). s - s % 1048576) c.loop-number.sums.items (sum ∷ [])
          ∙ ap (λ (xs : List ℕ). xs ++ (sum - sum % 1048576) ∷ []) c.loop-number.invariant.keys
          ∙ ap (λ (k : ℕ). take i keys ++ k ∷ []) own ∙ sym (take_more keys i 0 (omega arith));
      numbers = ap (map (λ (s : ℕ). s % 1048576)) c.in_ok-push.ensures.items
          ∙ map-append (λ (s : ℕ). s % 1048576) c.loop-number.sums.items (sum ∷ [])
          ∙ ap (λ (xs : List ℕ). xs ++ (sum % 1048576) ∷ []) c.loop-number.invariant.numbers
          ∙ ap (λ (n : ℕ). map (λ n. n) (range_with_len 0 i) ++ n ∷ []) number
          ∙ sym (map-range_with_len_more (λ n. n) 0 i i (omega arith));
    }
