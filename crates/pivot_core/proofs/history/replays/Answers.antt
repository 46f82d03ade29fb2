use Rattle.std.proofs.Common.{◌≡◌, ◌<◌, get_or, sym, ◌∙◌, arith}
use Rattle.std.proofs.lemmas.Grind.{common_steps}
use Rattle.std.proofs.lemmas.List.Elements.{All-more}
use Rattle.ideal_laws.specs.declared.account.Call.{Call}
use Rattle.pivot_core.proofs.CallLists.{no_call}
use Rattle.pivot_core.proofs.Histories.{Replays-at, Replays-more}
use Rattle.pivot_core.proofs.history.replays.Goals as goal
use Rattle.pivot_core.proofs.history.replays.Goals.{then-call-m-via-then-call-m, then-call-m-via-else-call-m+then-ne}

pub returns-then-call-m : goal.returns-then-call-m
returns-then-call-m c =
    let calls = c.args.calls.now in
    let place = c.loop-place.place in (
      λ h. absurd (grind arith),
      λ h. (let same = Replays-at calls place no_call c.loop-place-test.true h.1 in
          let below = h.0 place no_call c.loop-place-test.true in
          elim c.then-call-m.branch [
            | then-call-m-via-then-call-m w ↦ absurd (omega (arith, below))
            | then-call-m-via-else-call-m+then-ne w ↦ (let agree = same ∙ sym w.answer_at.ensures in absurd (grind (arith, common_steps)))
          ]),
    )

pub loop-place-preserved : goal.loop-place-preserved
loop-place-preserved c =
    let calls = c.args.calls.now in
    let place = c.loop-place.place in
    let same : (get_or calls place no_call).answer ≡ c.answer_at.result = grind (arith, common_steps) in (
      All-more (λ (k : Call). k.column < c.args.m) calls place no_call c.loop-place-test.true c.loop-place.invariant.0 (omega arith),
      Replays-more calls place no_call c.loop-place-test.true c.loop-place.invariant.1 (same ∙ c.answer_at.ensures),
    )
