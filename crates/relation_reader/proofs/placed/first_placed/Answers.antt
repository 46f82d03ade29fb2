use Rattle.std.proofs.Common.{◌+◌, ◌≤◌, length, drop, map, get_or, sym, ◌∙◌, arith}
use Rattle.std.proofs.lemmas.List.{get_or_default}
use Rattle.relation_reader.specs.declared.token.Mark.TheVariants as marks
use Rattle.relation_reader.specs.declared.token.Token.{Token}
use Rattle.relation_reader.specs.Meaning.{pieces_of}
use Rattle.relation_reader.proofs.Walking.{Finds, Walks-next, found-first, none-comes, none-small, token-within, tokens-few}
use Rattle.relation_reader.proofs.placed.first_placed.Goals.{Else-is_some}
use Rattle.relation_reader.proofs.placed.first_placed.Goals as goal

abbrev unread : Token
unread = record { mark = marks.Name; start = 0; end = 0 }

pub slice_bounds-bytes-count : goal.slice_bounds-bytes-count
slice_bounds-bytes-count c = (token-within c.args.text.now 0 c.args.tokens.now c.args.stop c.loop-at.at unread c.requires.splits c.loop-at-test.true).order

pub slice_bounds-bytes-start : goal.slice_bounds-bytes-start
slice_bounds-bytes-start c = (token-within c.args.text.now 0 c.args.tokens.now c.args.stop c.loop-at.at unread c.requires.splits c.loop-at-test.true).order

pub slice_bounds-bytes-end : goal.slice_bounds-bytes-end
slice_bounds-bytes-end c = (token-within c.args.text.now 0 c.args.tokens.now c.args.stop c.loop-at.at unread c.requires.splits c.loop-at-test.true).within

pub returns-then-is_some : goal.returns-then-is_some
returns-then-is_some c =
    let text = c.args.text.now in
    let tokens = c.args.tokens.now in
    let stop = c.args.stop in
    let walk = c.loop-at.walk in
    let at = c.loop-at.at in
    let known = c.loop-at.invariant in
    let t = get_or tokens at unread in
    found-first text tokens stop at walk.place (map (λ name. name.items) walk.names.items) walk.begun walk.letters t c.fault_at-found.result
    known (record {
      below = c.loop-at-test.true;
      is = get_or_default tokens at unread t c.loop-at-test.true;
      here = c.fault_at-found.ensures known.before (pieces_of text (drop (at + 1) tokens) stop) known.passed (sym (c.is_caret_at.ensures text stop));
    }) (sym c.is_some.ensures ∙ c.if-is_some.true)

-- what is found at a token without a fault
finds : (c : Else-is_some) → Finds c.args.text.now c.args.tokens.now c.args.stop c.loop-at.at c.loop-at.walk.place
    (get_or c.args.tokens.now c.loop-at.at unread) c.loop-at.invariant.before c.fault_at-found.result
finds c =
    let known = c.loop-at.invariant in
    record {
      below = c.loop-at-test.true;
      is = get_or_default c.args.tokens.now c.loop-at.at unread (get_or c.args.tokens.now c.loop-at.at unread) c.loop-at-test.true;
      here = c.fault_at-found.ensures known.before (pieces_of c.args.text.now (drop (c.loop-at.at + 1) c.args.tokens.now) c.args.stop) known.passed
          (sym (c.is_caret_at.ensures c.args.text.now c.args.stop));
    }

pub passed-requires-clause-comes : goal.passed-requires-clause-comes
passed-requires-clause-comes c =
    none-comes (finds (goal.at.passed-requires-clause-comes c).Else-is_some) (sym c.is_some.ensures ∙ c.if-is_some.false)

pub passed-requires-clause-few : goal.passed-requires-clause-few
passed-requires-clause-few c =
    let known = c.loop-at.invariant in
    let inside : 0 ≤ length c.args.text.now = omega arith in
    omega (arith, c.loop-at-test.true, known.few, c.requires.small, tokens-few c.args.text.now 0 c.args.tokens.now c.args.stop inside c.requires.splits)

pub passed-requires-clause-short : goal.passed-requires-clause-short
passed-requires-clause-short c =
    let known = c.loop-at.invariant in
    let inside : 0 ≤ length c.args.text.now = omega arith in
    omega (arith, c.loop-at-test.true, known.short, c.requires.small, tokens-few c.args.text.now 0 c.args.tokens.now c.args.stop inside c.requires.splits)

pub passed-requires-clause-small : goal.passed-requires-clause-small
passed-requires-clause-small c =
    none-small (finds (goal.at.passed-requires-clause-small c).Else-is_some) (sym c.is_some.ensures ∙ c.if-is_some.false)

pub loop-at-preserved : goal.loop-at-preserved
loop-at-preserved c =
    let walk = c.loop-at.walk in
    let known = c.loop-at.invariant in
    let next = c.in_ok-walk.walk in
    let gives = c.in_ok-walk.ensures in
    Walks-next c.args.text.now c.args.tokens.now c.args.stop c.loop-at.at walk.place (map (λ name. name.items) walk.names.items) walk.begun walk.letters
    (get_or c.args.tokens.now c.loop-at.at unread) c.fault_at-found.result known
    (finds (goal.at.loop-at-preserved c).Else-is_some) (sym c.is_some.ensures ∙ c.if-is_some.false)
    next.place (map (λ name. name.items) next.names.items) next.begun next.letters gives.place (gives.passed known.before known.passed) gives.few gives.short
