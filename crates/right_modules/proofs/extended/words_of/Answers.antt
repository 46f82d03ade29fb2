use Rattle.std.proofs.Common.{◌∙◌, Err, ap, arith, length, subst, sym}
use Rattle.std.specs.List.{flat_map, range_with_len}
use Rattle.std.proofs.lemmas.List.{take_all}
use Rattle.std.proofs.lemmas.List.FromFn.{length-range_with_len}
use Rattle.words.proofs.Faults.{same_fault}
use Rattle.normal_words.proofs.Gathered.{letters-longer, letters-more}
use Rattle.right_modules.specs.Extended.{AreNormal, ending}
use Rattle.right_modules.proofs.Endings.{endings, endings_normal, held_short}
use Rattle.right_modules.proofs.extended.words_of.Goals as goal

pub push_ending-requires-clause-room : goal.push_ending-requires-clause-room
push_ending-requires-clause-room c =
    let a = c.args in
    held_short a.alphabet.now.weights c.len-letters.ensures.alphabet.weights a.free a.index.now a.d a.held.now c.requires.held c.requires.room

pub returns-in_err-push_ending-clause-many : goal.returns-in_err-push_ending-clause-many
returns-in_err-push_ending-clause-many c = λ e.
    let a = c.args in
    let aw = c.len-letters.ensures.alphabet.weights in
    let more = c.in_err-push_ending.ensures.many (ap Err (same_fault c.from_residual.result _ _ c.from_residual.ensures.1 e)) in (
      endings a.alphabet.now.weights a.free a.index.now a.d a.held.now,
      endings_normal a.alphabet.now.weights aw a.free a.index.now a.d a.held.now c.requires.held,
      letters-longer (ending a.alphabet.now.weights a.free a.index.now a.d a.held.now) (length a.alphabet.now.weights) c.loop-letter.letter
          (omega (arith, c.len-letters.ensures.count)) a.most _ c.loop-letter.invariant.0 more,
    )

pub loop-letter-preserved : goal.loop-letter-preserved
loop-letter-preserved c =
    let a = c.args in (
      letters-more (ending a.alphabet.now.weights a.free a.index.now a.d a.held.now) (length a.alphabet.now.weights) c.loop-letter.letter
          (omega (arith, c.len-letters.ensures.count)) _ _ c.loop-letter.invariant.0 c.in_ok-push_ending.ensures.words,
      c.in_ok-push_ending.ensures.within,
    )

pub returns-clause-words : goal.returns-clause-words
returns-clause-words c =
    let a = c.args in
    let weights = a.alphabet.now.weights in
    let last = take_all c.loop-letter.letter (range_with_len 0 (length weights))
    (omega (arith, c.len-letters.ensures.count, length-range_with_len 0 (length weights))) in
    subst (AreNormal weights a.free a.index.now a.d) (sym (c.loop-letter.invariant.0 ∙ ap (flat_map (ending weights a.free a.index.now a.d a.held.now)) last))
    (endings_normal weights c.len-letters.ensures.alphabet.weights a.free a.index.now a.d a.held.now c.requires.held)
