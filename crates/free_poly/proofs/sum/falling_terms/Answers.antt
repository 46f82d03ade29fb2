use Rattle.std.proofs.Common.{◌≡◌, ap, ◌∙◌}
use Rattle.std.specs.Iterator.Adapters.{rev_source}
use Rattle.free_poly.proofs.Entries.{Unloads-all, Unloads-more, Unloads-none, Unloads-zero, total_at-entries}
use Rattle.free_poly.proofs.sum.falling_terms.Goals as goal

pub loop-word-init : goal.loop-word-init
loop-word-init c =
    let same : rev_source c.into_iter-word-iterator.result ≡ c.args.totals.entries =
    ap rev_source c.into_iter-word-iterator.ensures.into_iter_gives ∙ c.rev-word-items.ensures.source
    ∙ c.into_iter.ensures.into_iter_gives.0 in
    rw (same, c.new-terms.ensures.items) (Unloads-none c.args.totals.entries c.into_iter.ensures.into_iter_gives.5)

pub returns-clause-totals : goal.returns-clause-totals
returns-clause-totals c = λ w.
    let ended = rw c.in-None.ensures.steps.0 at c.loop-word.invariant in
    Unloads-all c.args.totals.entries c.loop-word.terms.items ended w ∙ total_at-entries c.args.totals.entries w c.into_iter.ensures.into_iter_gives.5

pub loop-word-preserved-then-coefficient-eq0 : goal.loop-word-preserved-then-coefficient-eq0
loop-word-preserved-then-coefficient-eq0 c =
    let last = rw c.in-Some.ensures.steps at c.loop-word.invariant in
    Unloads-zero _ _ _ _ c.if-coefficient-eq0.true last

pub loop-word-preserved : goal.loop-word-preserved
loop-word-preserved c =
    let last = rw c.in-Some.ensures.steps at c.loop-word.invariant in
    rw c.in_ok-push.ensures.items (Unloads-more _ _ _ _ c.if-coefficient-eq0.false last)
