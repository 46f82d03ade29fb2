use Rattle.std.proofs.Common.{ℕ, map, [], ◌∷◌, ◌++◌, ap, ◌∙◌, sym, List, arith, get_or}
use Rattle.std.proofs.lemmas.List.{map-append, take_more}
use Rattle.std.proofs.lemmas.List.FromFn.{map-range_with_len_more}
use Rattle.symbolic_prep.proofs.ordering.numbered.Goals as goal

pub loop-number-preserved : goal.loop-number-preserved
loop-number-preserved c =
    let i = c.loop-number.number in
    let keys = c.args.keys.now in
    let own : ℕ × ℕ = (get_or keys i 0, i) in
    record {
      keys = ap (map (λ (p : ℕ × ℕ). p.0)) c.in_ok-push.ensures.items ∙ map-append (λ (p : ℕ × ℕ). p.0) c.loop-number.pairs.items (own ∷ [])
          ∙ ap (λ (xs : List ℕ). xs ++ get_or keys i 0 ∷ []) c.loop-number.invariant.keys ∙ sym (take_more keys i 0 (omega arith));
      numbers = ap (map (λ (p : ℕ × ℕ). p.1)) c.in_ok-push.ensures.items
          ∙ map-append (λ (p : ℕ × ℕ). p.1) c.loop-number.pairs.items (own ∷ [])
          ∙ ap (λ (xs : List ℕ). xs ++ i ∷ []) c.loop-number.invariant.numbers ∙ sym (map-range_with_len_more (λ n. n) 0 i i (omega arith));
    }
