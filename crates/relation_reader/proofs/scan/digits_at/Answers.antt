use Rattle.std.proofs.Common.{◌≡◌, ◌≤◌, true, get_or, subst, sym, arith}
use Rattle.relation_reader.specs.Tokens.{is_digit, span, with_digits}
use Rattle.relation_reader.specs.Scan.{IsNarrowed}
use Rattle.relation_reader.proofs.Spans.{begun-next, digits-next}
use Rattle.relation_reader.proofs.scan.digits_at.Goals as goal

pub loop-at-preserved : goal.loop-at-preserved
loop-at-preserved c =
    let text = c.args.text.now in
    let start = c.args.start in
    let at = c.loop-at.at in
    let ordered : start ≤ at = omega arith in
    let more : is_digit (get_or text at 0) ≡ true = first_of (cc, grind arith) in
    record {
      spelled = begun-next is_digit is_digit text start at ordered c.loop-at-test.true c.loop-at.invariant.spelled more;
      value = subst (IsNarrowed c.with_digit-value.result) (sym (digits-next text start at ordered c.loop-at-test.true))
          (c.with_digit-value.ensures (with_digits 0 (span text start at)) c.loop-at.invariant.value);
    }
