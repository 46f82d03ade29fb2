use Rattle.std.proofs.Common.{◌≡◌, ◌+◌, ◌++◌, [], ◌∷◌, ℕ, max, length, sym, ap, ap₂, ◌∙◌, arith, subst}
use Rattle.std.proofs.lemmas.List.{with_items_is}
use Rattle.ideal_laws.specs.declared.account.Answer.TheVariants as answer
use Rattle.pivot_core.specs.declared.event.Reply.{Reply}
use Rattle.pivot_core.specs.declared.event.Reply.TheVariants as reply
use Rattle.pivot_core.specs.declared.view.Phase.{Phase}
use Rattle.pivot_core.specs.declared.view.Phase.TheVariants as phase
use Rattle.pivot_core.specs.declared.sight.Sight.{Sight}
use Rattle.pivot_core.specs.Phases.{IsUnread}
use Rattle.pivot_core.specs.Steps.{IsMet, after_lost, after_won, lost_call}
use Rattle.pivot_core.specs.Views.{sight_of, zeros}
use Rattle.pivot_core.specs.Words.{row_in, stamp_in}
use Rattle.pivot_core.proofs.MetRows.{counted, meets_lost, meets_won}
use Rattle.pivot_core.proofs.view.View.claim.Goals as goal

pub returns-then-old-eq0-clause-met : goal.returns-then-old-eq0-clause-met
returns-then-old-eq0-clause-met c =
    let problem = c.args.problem.now in
    let v : Sight = sight_of c.args.self.now in
    let u : Sight = counted problem v c.args.old in
    let cleared = with_items_is c.args.self.now.current c.clear.new.row (omega (arith, c.clear.auto.row, c.as_mut_slice.ensures.len)) ∙ c.clear.ensures
    ∙ ap zeros (ap length c.as_mut_slice.ensures.value ∙ c.requires.may.sight.current) in
    let now : record u { phase = phase.Fresh; current = _; clock = v.clock + 1; calls = _ } ≡ after_won problem u c.args.row c.args.column =
    λ i. record u { phase = phase.Fresh; current = cleared i; clock = v.clock + 1; calls = c.push_reserved.ensures.items i } in
    subst (λ (w : Sight). IsMet problem v c.args.old w (reply.Claimed answer.Won)) (sym now)
    (meets_won problem v c.args.old c.requires.phase c.if-old-eq0.true)

pub returns-clause-met : goal.returns-clause-met
returns-clause-met c =
    let problem = c.args.problem.now in
    let v : Sight = sight_of c.args.self.now in
    let old : ℕ = c.args.old in
    let u : Sight = counted problem v old in
    let clock : c.max.result + 1 ≡ max v.clock (stamp_in old) + 1 = ap (λ (k : ℕ). k + 1) (c.max.ensures ∙ ap (max v.clock) c.stamp_told-2.ensures) in
    let unread : IsUnread problem.m (phase.Claiming c.args.row c.args.column) v.seen = subst (λ (f : Phase). IsUnread problem.m f v.seen)
    c.requires.phase c.requires.may.sight.unread in
    let calls : c.push_reserved-2.new.self.items ≡ v.calls ++ lost_call v c.args.row c.args.column old ∷ [] =
    c.push_reserved-2.ensures.items ∙ (λ i. v.calls ++ record (lost_call v c.args.row c.args.column old)
    { stamp = clock i; answer = answer.Lost (c.row_told.ensures i) (c.stamp_told.ensures i) } ∷ []) in
    let now : sight_of c.begin.new.self ≡ after_lost problem u c.args.row c.args.column old =
    c.begin.ensures.begun ∙ (λ i. record u {
      phase = phase.Reading c.args.row c.args.column (c.row_told-2.ensures i) c.args.column;
      seen = unread i;
      clock = clock i;
      calls = calls i;
    }) in
    let told : reply.Claimed (answer.Lost c.row_told.result c.stamp_told.result) ≡ reply.Claimed (answer.Lost (row_in old) (stamp_in old)) =
    ap₂ (λ (r n : ℕ). reply.Claimed (answer.Lost r n)) c.row_told.ensures c.stamp_told.ensures in
    subst (λ (w : Sight). IsMet problem v old w (reply.Claimed (answer.Lost c.row_told.result c.stamp_told.result))) (sym now)
    (subst (λ (r : Reply). IsMet problem v old (after_lost problem u c.args.row c.args.column old) r) (sym told)
    (meets_lost problem v old c.requires.phase c.if-old-eq0.false))
