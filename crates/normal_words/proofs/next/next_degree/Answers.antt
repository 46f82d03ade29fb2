use Rattle.std.proofs.Common.{◌++◌, ◌<◌, ℕ, Err, length, subst, sym, ap, ◌∙◌, arith}
use Rattle.std.specs.List.{flat_map, range_with_len}
use Rattle.std.proofs.lemmas.List.{take_all}
use Rattle.std.proofs.lemmas.List.FromFn.{length-range_with_len}
use Rattle.words.proofs.Faults.{same_fault}
use Rattle.normal_words.specs.Normal.{AreNormal, next_of}
use Rattle.normal_words.specs.Block.{block_at}
use Rattle.normal_words.proofs.Gathered.{letters-longer, letters-more}
use Rattle.normal_words.proofs.Grown.{block_of, grown, grown_normal, words_short}
use Rattle.normal_words.proofs.next.next_degree.Goals as goal

pub push_letter-requires-clause-room : goal.push_letter-requires-clause-room
push_letter-requires-clause-room c = words_short c.args.alphabet.now.weights c.args.index.now c.args.before.now
    c.len-letters.ensures.alphabet.weights c.requires.before c.requires.room

pub returns-in_err-push_letter-clause-many : goal.returns-in_err-push_letter-clause-many
returns-in_err-push_letter-clause-many c = λ e.
    let weights = c.args.alphabet.now.weights in
    let leads = c.args.index.now in
    let before = c.args.before.now in
    let letter = c.loop-letter.letter in
    let more = subst (λ (k : ℕ). c.args.most < length (c.loop-letter.words.items ++ block_at leads before letter k)) c.weight-weight.ensures.value
    (c.in_err-push_letter.ensures.many (ap Err (same_fault c.from_residual.result _ _ c.from_residual.ensures.1 e))) in (
      grown weights leads before,
      grown_normal weights leads before c.len-letters.ensures.alphabet.weights c.requires.before c.requires.enough,
      letters-longer (block_of weights leads before) (length weights) letter (omega (arith, c.len-letters.ensures.count)) c.args.most _
          c.loop-letter.invariant.0 more,
    )

pub loop-letter-preserved : goal.loop-letter-preserved
loop-letter-preserved c =
    let f = block_of c.args.alphabet.now.weights c.args.index.now c.args.before.now in
    let letter = c.loop-letter.letter in (
      letters-more f (length c.args.alphabet.now.weights) letter (omega (arith, c.len-letters.ensures.count)) _ _ c.loop-letter.invariant.0
          (c.in_ok-push_letter.ensures.block
          ∙ ap (λ (k : ℕ). c.loop-letter.words.items ++ block_at c.args.index.now c.args.before.now letter k) c.weight-weight.ensures.value),
      c.in_ok-push_letter.ensures.within,
    )

pub returns-clause-words : goal.returns-clause-words
returns-clause-words c =
    let weights = c.args.alphabet.now.weights in
    let leads = c.args.index.now in
    let before = c.args.before.now in
    let last = take_all c.loop-letter.letter (range_with_len 0 (length weights))
    (omega (arith, c.len-letters.ensures.count, length-range_with_len 0 (length weights))) in
    subst (AreNormal weights leads (next_of before)) (sym (c.of.ensures.words ∙ c.loop-letter.invariant.0 ∙ ap (flat_map (block_of weights leads before)) last))
    (grown_normal weights leads before c.len-letters.ensures.alphabet.weights c.requires.before c.requires.enough)
