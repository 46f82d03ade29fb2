use Rattle.std.proofs.Common.{arith}
use Rattle.words.proofs.Weights.{degree_of-more}
use Rattle.words.proofs.alphabet.word_degree.Goals as goal

pub overflow_add-total : goal.overflow_add-total
overflow_add-total c = omega (arith, c.loop-letter.invariant.1, c.from-total.ensures, c.loop-letter-test.true)

pub loop-letter-preserved : goal.loop-letter-preserved
loop-letter-preserved c = (
  omega (
    arith,
    c.loop-letter.invariant.0,
    c.from-total.ensures,
    c.weight_at.ensures,
    degree_of-more c.args.weights.now c.args.word.now c.loop-letter.letter-index c.loop-letter-test.true,
  ),
  omega (arith, c.loop-letter.invariant.1, c.from-total.ensures),
)
