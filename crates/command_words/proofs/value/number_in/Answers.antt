use Rattle.std.proofs.Common.{arith, rules}
use Rattle.std.specs.Char.{IsAsciiDigit}
use Rattle.std.proofs.lemmas.List.Elements.{All-more}
use Rattle.command_words.proofs.Digits.{with_digits-more}
use Rattle.command_words.proofs.value.number_in.Goals as goal
use Rattle.command_words.proofs.value.number_in.Goals.{then-value-from, else-value-from}

pub loop-digit-preserved : goal.loop-digit-preserved
loop-digit-preserved c =
    let i = c.loop-digit.invariant in
    let digits = c.args.text.now in
    let more = with_digits-more 0 digits c.loop-digit.digit-index c.loop-digit-test.true in
    elim c.if-value-from.branch [
      | then-value-from w ↦ (
          let e = i.exact (omega (arith, w.if-value-from.true, c.from.ensures)) in
          record {
            each = All-more IsAsciiDigit digits c.loop-digit.digit-index 0 c.loop-digit-test.true i.each (search rules);
            exact = λ small. omega (arith, more, e, w.value-is, w.from-then-value-from.ensures);
            past = λ large. omega (arith, more, e, w.value-is, w.from-then-value-from.ensures, large);
          })
      | else-value-from w ↦ (
          let e = i.past (omega (arith, w.if-value-from.false, c.from.ensures)) in
          record {
            each = All-more IsAsciiDigit digits c.loop-digit.digit-index 0 c.loop-digit-test.true i.each (search rules);
            exact = λ small. absurd (omega (arith, w.value-is, w.if-value-from.false, c.from.ensures, small));
            past = λ large. omega (arith, more, e);
          })
    ]
