use Rattle.std.proofs.Common.{ap₂, ◌<◌, ◌≤◌, ◌++◌, ◌∷◌, [], ℕ, List, arith, length, sym, ◌∙◌, subst}
use Rattle.std.proofs.lemmas.List.{length-set, take_more, take_more_set}
use Rattle.std.proofs.lemmas.List.Elements.{All-more}
use Rattle.ideal_laws.proofs.basis.weights_of.Goals as goal

pub loop-letter-preserved : goal.loop-letter-preserved
loop-letter-preserved c =
    let within : c.loop-letter.letter < length c.args.alphabet.now.weights = omega (arith, c.loop-letter-test.true, c.len-letter-end.ensures.count) in
    let room : c.loop-letter.letter < length c.loop-letter.weights = omega (arith, within, c.len-letter-end.ensures.few, c.loop-letter.invariant.0) in (
      length-set {A = ℕ} c.loop-letter.weights c.loop-letter.letter c.weight.result ∙ c.loop-letter.invariant.0,
      take_more_set c.loop-letter.weights c.loop-letter.letter c.weight.result room
          ∙ ap₂ (λ (front : List ℕ) (e : ℕ). front ++ e ∷ []) c.loop-letter.invariant.1 c.weight.ensures.value
          ∙ sym (take_more c.args.alphabet.now.weights c.loop-letter.letter 1 within),
      All-more (λ e. (0 < e) × (e ≤ 8)) c.args.alphabet.now.weights c.loop-letter.letter 1 within c.loop-letter.invariant.2
          (subst (λ (e : ℕ). (0 < e) × (e ≤ 8)) c.weight.ensures.value (c.weight.ensures.some, c.weight.ensures.small)),
    )
