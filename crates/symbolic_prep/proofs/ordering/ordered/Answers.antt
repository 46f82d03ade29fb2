use Rattle.std.proofs.Common.{◌≡◌, ◌<◌, ◌∙◌, ℕ, List, None, Option, ap, arith, get_or, length, sym, subst}
use Rattle.std.proofs.lemmas.List.{get_or-map, get_or_read_under, length-map, length-set}
use Rattle.symbolic_prep.specs.declared.lists.Span.{Span}
use Rattle.symbolic_prep.specs.Orders.{IsMoved, IsSpanIn}
use Rattle.symbolic_prep.proofs.Moved.{moved_set, same_behind, same_here}
use Rattle.symbolic_prep.proofs.ordering.ordered.Goals as goal

pub push_moved-requires : goal.push_moved-requires
push_moved-requires c =
    let i = c.loop-at.at in
    let own = c.loop-at.ordered.items in
    let all = c.in_ok-ordered.ordered.items in
    let order = c.args.order.now in
    let at : ℕ → Option Span = λ n. get_or c.args.spans.now n None in
    let within : i < length own = omega (arith, c.loop-at-test.true, c.len-at-end.ensures, c.in_ok-ordered.ordered.ok, c.loop-at.invariant.size) in
    let inside : i < length order = omega (arith, within, c.loop-at.invariant.size, ap length c.in_ok-ordered.ensures, length-map order at) in
    let read : c.index.result.now ≡ get_or own i None =
    get_or_read_under own i (length own) c.index.result.now None c.index.ensures within (omega arith) in
    let here : get_or all i None ≡ at (get_or order i 0) =
    ap (λ (l : List (Option Span)). get_or l i None) c.in_ok-ordered.ensures ∙ get_or-map at order i 0 None inside in
    subst (IsSpanIn c.args.numbers.now) (sym (read ∙ same_here own all i c.loop-at.invariant.rest None ∙ here))
    (c.requires.within (get_or order i 0) None (c.requires.order i 0 inside))

pub loop-at-preserved : goal.loop-at-preserved
loop-at-preserved c =
    let i = c.loop-at.at in
    let own = c.loop-at.ordered.items in
    let all = c.in_ok-ordered.ordered.items in
    let span = c.in_ok-ordered-2.field-0 in
    let within : i < length own = omega (arith, c.loop-at-test.true, c.len-at-end.ensures, c.in_ok-ordered.ordered.ok, c.loop-at.invariant.size) in
    let read : c.index.result.now ≡ get_or own i None =
    get_or_read_under own i (length own) c.index.result.now None c.index.ensures within (omega arith) in
    let moved = c.in_ok-ordered-2.ensures in
    record {
      size = length-set own i span ∙ c.loop-at.invariant.size;
      done = moved_set c.args.numbers.now c.loop-at.moved.items c.push_moved.new.moved.items moved.longer all own i span
          (omega (arith, within, c.loop-at.invariant.size)) within c.loop-at.invariant.done
          (subst (λ (o : Option Span). IsMoved c.args.numbers.now c.push_moved.new.moved.items o span)
          (read ∙ same_here own all i c.loop-at.invariant.rest None) moved.moved);
      rest = same_behind own all i c.loop-at.invariant.rest span;
    }
