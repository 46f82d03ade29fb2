use Rattle.std.proofs.Common.{◌≡◌, ◌<◌, ℕ, List, false, true, None, Some, length, subst, sym, ◌∙◌, arith}
use Rattle.words.specs.Words.{OccursAt}
use Rattle.plain_engine.proofs.Chosen.{normal_more}
use Rattle.plain_engine.proofs.elements.is_normal.Goals as goal
use Rattle.plain_engine.proofs.elements.is_normal.Goals.{in-Some+else-is_factor, in_default}
use Rattle.std.proofs.lemmas.Option.{same_Some}

pub loop-place-preserved : goal.loop-place-preserved
loop-place-preserved c =
    let word = c.args.word.now in
    let element = c.element.result.now in
    let within : c.loop-place.place < length c.args.below.now.elements = omega (arith, c.loop-place-test.true, c.len-place-end.ensures) in
    normal_more c.args.below.now.elements c.loop-place.place element word within c.element.ensures c.loop-place.invariant
    (λ v k lead o. elim c.match-lead.branch [
      | in-Some+else-is_factor w ↦
          (let is : w.in-Some.lead.now ≡ v = same_Some w.in-Some.lead.now v (w.in-Some.ensures ∙ lead) in
          let wrong : false ≡ true = w.if-is_factor.ensures.1 (k, subst (λ (u : List ℕ). OccursAt u word k) (sym (w.letters.ensures ∙ is)) o) in cc)
      | in_default w ↦ (let none : None ≡ Some v = w.in_default.ensures ∙ lead in cc)
    ])
