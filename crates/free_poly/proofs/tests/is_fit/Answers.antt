use Rattle.std.proofs.Common.{◌<◌, length, arith}
use Rattle.std.proofs.lemmas.List.Elements.{All-more}
use Rattle.words.proofs.Weights.{degree_of-more}
use Rattle.free_poly.proofs.tests.is_fit.Goals as goal

pub loop-letter-preserved : goal.loop-letter-preserved
loop-letter-preserved c =
    let i = c.loop-letter.letter-index in
    let w = c.args.word.now in
    let n = c.args.alphabet.now.weights in (
      omega (arith, c.loop-letter.invariant.0, c.from-total.ensures, c.weight.ensures.value, degree_of-more n w i c.loop-letter-test.true),
      omega (arith, c.loop-letter.invariant.1, c.from-total.ensures, c.weight.ensures.small),
      All-more (λ x. x < length n) w i 0 c.loop-letter-test.true c.loop-letter.invariant.2 (omega arith),
    )
