use Rattle.std.proofs.Common.{◌<◌, length, map, ap, ◌∙◌, arith, rules}
use Rattle.std.proofs.lemmas.List.{get_or-map, length-map, take_all}
use Rattle.std.proofs.lemmas.List.Sorted.{answers_always}
use Rattle.pivot_core.specs.History.{joined_calls, sorted_calls}
use Rattle.pivot_core.proofs.StableCalls.{rank, sorted_calls-from_sort}
use Rattle.pivot_core.proofs.Histories.{joined_calls-more}
use Rattle.pivot_core.proofs.history.merge.Goals as goal

pub loop-log-preserved : goal.loop-log-preserved
loop-log-preserved c =
    let logs = map (λ log. log.items) c.args.logs.now in
    let within : c.loop-log.log-index < length logs = omega (arith, length-map c.args.logs.now (λ log. log.items)) in
    let more = joined_calls-more logs c.loop-log.log-index c.log-item.result.items within in
    let log = get_or-map (λ log. log.items) c.args.logs.now c.loop-log.log-index c.log-item.result c.log-item.result.items c.loop-log-test.true in
    cc c.in_ok-extend_from_slice.ensures.items

pub returns : goal.returns
returns c =
    let logs = map (λ log. log.items) c.args.logs.now in
    sorted_calls-from_sort _ _ (c.in_ok-sort_by_key.ensures.sorted rank (answers_always _ _ _ (λ f a r g h. search rules)))
    (c.sort_by_key.ensures.stable rank (answers_always _ _ _ (λ f a r g h. search rules)))
    ∙ ap sorted_calls (c.loop-log.invariant ∙ ap joined_calls (take_all c.loop-log.log-index logs
    (omega (arith, length-map c.args.logs.now (λ log. log.items)))))
