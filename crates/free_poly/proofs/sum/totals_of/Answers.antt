use Rattle.std.proofs.Common.{◌≡◌, ◌+◌, ◌%◌, ℕ, List, [], ◌∷◌, ◌++◌, arith, sym, ap, ◌∙◌, Bool, cond, bytes_eq, inl, inr, add-zero}
use Rattle.std.specs.Prelude.{unwrap_or}
use Rattle.std.specs.Ordering.{eq_by_cmp}
use Rattle.std.specs.Cmp.Lexicographic.{same_text}
use Rattle.std.proofs.lemmas.Bool.{cases_Bool}
use Rattle.std.proofs.lemmas.Grind.{common_steps}
use Rattle.std.proofs.Math.Nat.{mod-add-mod}
use Rattle.words.specs.Order.{letterwise_cmp}
use Rattle.words.specs.OrderLaws.{letterwise_ties}
use Rattle.free_poly.specs.Terms.{total_at}
use Rattle.free_poly.proofs.Totals.{total_at-append}
use Rattle.free_poly.proofs.sum.totals_of.Goals as goal

pub loop-term-preserved : goal.loop-term-preserved
loop-term-preserved c = λ q.
    let t = c.in-Some.term in
    let seen = c.loop-term.yielded in
    let step : total_at (seen ++ t ∷ []) q ≡ total_at seen q + (cond (bytes_eq t.word q) t.coefficient 0 + 0) = total_at-append seen (t ∷ []) q in
    let tie : bytes_eq t.word q ≡ eq_by_cmp letterwise_cmp t.word q = letterwise_ties t.word q in
    let old = c.loop-term.invariant q in
    let old_here = c.loop-term.invariant t.word in
    elim (cases_Bool (bytes_eq t.word q)) [
      | inl found ↦
          let is : t.word ≡ q = same_text t.word q (sym found) in
          let sum : total_at (seen ++ t ∷ []) q ≡ total_at seen q + t.coefficient = step
          ∙ ap (λ (b : Bool). total_at seen q + (cond b t.coefficient 0 + 0)) found
          ∙ ap (λ (n : ℕ). total_at seen q + n) (add-zero t.coefficient) in
          let value : c.add.result ≡ (total_at seen q + t.coefficient) % c.args.field.now =
          c.add.ensures ∙ ap (λ (n : ℕ). (n + t.coefficient) % c.args.field.now)
          (c.or_insert-total.ensures.value ∙ ap (λ o. unwrap_or o 0) c.in_ok-totals.ensures.value ∙ old_here
          ∙ ap (λ (w : List ℕ). total_at seen w % c.args.field.now) is)
          ∙ mod-add-mod (total_at seen q) c.args.field.now t.coefficient in
          grind (arith, common_steps, tie, found, value, sum)
      | inr other ↦
          let sum : total_at (seen ++ t ∷ []) q ≡ total_at seen q = step
          ∙ ap (λ (b : Bool). total_at seen q + (cond b t.coefficient 0 + 0)) other ∙ add-zero (total_at seen q) in
          grind (arith, common_steps, tie, other, sum, old)
    ]
