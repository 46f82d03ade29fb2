use Rattle.std.proofs.Common.{◌<◌, List, [], None, Some, length, subst, arith}
use Rattle.std.proofs.lemmas.List.{append-nil}
use Rattle.relation_reader.specs.declared.token.Token.{Token}
use Rattle.relation_reader.specs.Tokens.{SplitsFrom}
use Rattle.relation_reader.proofs.Spans.{StopsAt-fault}
use Rattle.relation_reader.proofs.scan.split_of.Goals as goal

pub returns-then-start-text : goal.returns-then-start-text
returns-then-start-text c =
    subst (λ (ts : List Token). SplitsFrom c.args.text.now 0 ts None) (append-nil c.tokens.tokens.items)
    (c.tokens.invariant.completes [] None (c.gap_end-start.ensures.rest c.if-start-text.true))

pub returns-in-Err : goal.returns-in-Err
returns-in-Err c =
    let text = c.args.text.now in
    let start = c.gap_end-start.result in
    let inside : start < length text = omega (arith, c.gap_end-start.ensures.within) in
    let stops = StopsAt-fault text c.tokens.at start c.in-Err.fault (c.gap_end-start.ensures.gap inside) c.in-Err.ensures in
    subst (λ (ts : List Token). SplitsFrom text 0 ts (Some c.in-Err.fault)) (append-nil c.tokens.tokens.items)
    (c.tokens.invariant.completes [] (Some c.in-Err.fault) stops)
