use Rattle.std.proofs.Common.{◌≡◌, ◌≤◌, true, get_or, arith}
use Rattle.relation_reader.specs.Tokens.{is_letter, is_name_byte}
use Rattle.relation_reader.proofs.Spans.{begun-next}
use Rattle.relation_reader.proofs.scan.name_end.Goals as goal

pub loop-at-preserved : goal.loop-at-preserved
loop-at-preserved c =
    let text = c.args.text.now in
    let at = c.loop-at.at in
    let ordered : c.args.start ≤ at = omega arith in
    let more : is_name_byte (get_or text at 0) ≡ true = first_of (cc, grind arith) in
    begun-next is_letter is_name_byte text c.args.start at ordered c.loop-at-test.true c.loop-at.invariant more
