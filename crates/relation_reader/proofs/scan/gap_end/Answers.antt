use Rattle.std.proofs.Common.{◌≤◌, get_or, sym, ap, ◌∙◌, arith}
use Rattle.relation_reader.specs.Tokens.{after_byte, between}
use Rattle.relation_reader.proofs.Spans.{gap-next}
use Rattle.relation_reader.proofs.scan.gap_end.Goals as goal

pub loop-at-preserved : goal.loop-at-preserved
loop-at-preserved c =
    let text = c.args.text.now in
    let at = c.loop-at.at in
    let ordered : c.args.from ≤ at = omega arith in
    gap-next between text c.args.from at ordered c.loop-at-test.true
    ∙ ap (λ g. after_byte g (get_or text at 0)) c.loop-at.invariant
    ∙ sym c.is_comment_after-in_comment.ensures
