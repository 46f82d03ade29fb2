use Rattle.std.proofs.Common.{arith}
use Rattle.words.proofs.Weights.{degree_of-more}
use Rattle.degree_words.proofs.within.degree_within.Goals as goal

pub loop-letter-preserved : goal.loop-letter-preserved
loop-letter-preserved c =
    omega (
      arith,
      c.min-degree.ensures,
      c.from.ensures,
      c.weight.ensures.value,
      c.loop-letter.invariant,
      degree_of-more c.args.alphabet.now.weights c.args.word.now c.loop-letter.letter-index (omega arith),
    )
