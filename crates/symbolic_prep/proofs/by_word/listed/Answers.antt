use Rattle.std.proofs.Common.{◌+◌, List, Option, arith, subst, sym, take}
use Rattle.std.specs.List.{AllZip}
use Rattle.free_poly.specs.declared.term.Term.{Term}
use Rattle.symbolic_prep.specs.declared.lists.Span.{Span}
use Rattle.symbolic_prep.specs.Numbers.{IsSpanOf}
use Rattle.symbolic_prep.proofs.ByWord.{spans_push}
use Rattle.symbolic_prep.proofs.by_word.listed.Goals as goal

pub loop-reducer-preserved : goal.loop-reducer-preserved
loop-reducer-preserved c =
    let columns = c.args.columns.now in
    let n = c.loop-reducer.numbers.items in
    let r = c.loop-reducer.residues in
    let m = c.push_listed.new.numbers.items in
    let q = c.push_listed.new.residues in
    let i = c.loop-reducer.reducer-index in
    let o : Option (List Term) = c.reducer-item.result in
    record {
      few = omega (arith, c.in_ok-span.ensures.one, c.loop-reducer.invariant.few);
      zipped = subst (λ (ss : List (Option Span)). AllZip (IsSpanOf columns m q) ss (take (i + 1) c.args.reducers.now)) (sym c.in_ok-push.ensures.items)
          (spans_push columns c.requires.falling n m r q c.loop-reducer.spans.items c.args.reducers.now i c.in_ok-span.span o
          c.loop-reducer.invariant.zipped c.in_ok-span.ensures.numbers c.in_ok-span.ensures.residues (omega arith) c.reducer-item.is
          c.in_ok-span.ensures.stands);
    }
