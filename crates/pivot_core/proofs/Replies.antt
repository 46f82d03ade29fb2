-- What replies tell: looks find what calls left, and calls come after what was met.
use Rattle.std.proofs.Common.{◌≡◌, ◌≢◌, ℕ, ◌+◌, ◌<◌, ◌≤◌, ◌==◌, List, [], ◌∷◌, ◌++◌, Some, length, ltb, sym, ap, ap₂, ◌∙◌, arith, subst}
use Rattle.std.proofs.lemmas.Option.{same_Some, none-some}
use Rattle.std.proofs.lemmas.Bool.{cond_both, cond-false, ne_eqb}
use Rattle.std.proofs.lemmas.List.{append_cancel_left, length-append}
use Rattle.ideal_laws.specs.declared.account.Answer.{Answer}
use Rattle.ideal_laws.specs.declared.account.Answer.TheVariants as answer
use Rattle.ideal_laws.specs.declared.account.Call.{Call}
use Rattle.back_reduce.specs.declared.problem.Problem.{Problem}
use Rattle.pivot_core.specs.declared.view.Phase.{Phase}
use Rattle.pivot_core.specs.declared.view.Phase.TheVariants as phase
use Rattle.pivot_core.specs.declared.sight.Sight.{Sight}
use Rattle.pivot_core.specs.declared.event.Event.{Event}
use Rattle.pivot_core.specs.declared.event.Reply.TheVariants as reply
use Rattle.pivot_core.specs.Words.{row_in, stamp_in}
use Rattle.pivot_core.specs.Steps.{Stepped, by_phase, met, spot_of}
use Rattle.pivot_core.specs.Runs.{State, after_event, after_events, claim_at, opening, state_after, view_at, with_step, word_at}
use Rattle.pivot_core.specs.Calls.{IsAnswered, IsCall}
use Rattle.pivot_core.specs.Claimed.{ClaimedPivots}
use Rattle.pivot_core.specs.Laws.{CallsFollowWhatWasMet, IsSetting, LooksFindCalls, left_by, stamp_told}
use Rattle.pivot_core.proofs.CallsKept.{call_held, called, calling, silent, IsCalling}
use Rattle.pivot_core.proofs.Changes.{each_view}
use Rattle.pivot_core.proofs.Kept.{claimed_pivots, event_keeps, held_kept}
use Rattle.pivot_core.proofs.RunLaws.{after_events-append}
use Rattle.pivot_core.proofs.Table.{IsTaken, made_change, made_next, move_of, taken}

-- a look at a column that is held
held_reply : (problem : Problem) (v : Sight) (row column old : ℕ) (t : Stepped) → v.phase ≡ phase.Looking row column → old ≢ 0 →
    met problem v old ≡ Some t → t.reply ≡ reply.Held (row_in old) (stamp_in old)
held_reply problem v row column old t is other e =
    let gives = same_Some _ t (ap (λ (f : Phase). by_phase problem (record v { steps = v.steps + 1 }) f old) (sym is) ∙ e) in
    sym (ap (λ (u : Stepped). u.reply) gives)
    ∙ ap (λ (u : Stepped). u.reply) (cond-false _ _ _ (ne_eqb old 0 other))

-- a look at a column on which the seat has made a call finds what the call left there
pub looks_find_calls : LooksFindCalls
looks_find_calls problem crew setting events e row column kind is k there same t gives =
    let s : State = state_after problem crew events in
    let h : ClaimedPivots problem crew s = claimed_pivots problem crew setting events in
    let next = made_next problem crew s e t h.ranges gives in
    let v : Sight = view_at problem s e.seat in
    let own : IsCall problem s e.seat v.clock k = subst (IsCall problem s e.seat v.clock) there.2 (h.calls_and_counts.each e.seat next.0 there.0 k there.1) in
    let met_is : word_at problem s (spot_of v.phase) ≡ claim_at problem s k.column = ap (λ (f : Phase). word_at problem s (spot_of f)) is
    ∙ ap (claim_at problem s) (sym same) in
    let held = call_held problem s e.seat v.clock k own in
    held_reply problem v row column (word_at problem s (spot_of v.phase)) t is (λ none. held.some (sym met_is ∙ none)) next.1
    ∙ ap (λ (x : ℕ). reply.Held (row_in x) (stamp_in x)) met_is ∙ by_answer s k k.answer own.answered
  where
    by_answer : (s : State) (k : Call) (a : Answer) → IsAnswered problem s k a →
        reply.Held (row_in (claim_at problem s k.column)) (stamp_in (claim_at problem s k.column)) ≡ left_by k a
    by_answer s k answer.Won h = ap₂ (λ (r n : ℕ). reply.Held r n) h.1 h.2
    by_answer s k (answer.Lost r n) h = ap₂ (λ (r n : ℕ). reply.Held r n) h.1 h.2

-- a stamp that was told is in the clock
told_by : (problem : Problem) (v : Sight) (f : Phase) (old : ℕ) (t : Stepped) → by_phase problem v f old ≡ Some t → stamp_told t.reply ≤ t.sight.clock
told_by problem v phase.Fresh old t e = subst (λ (u : Stepped). stamp_told u.reply ≤ u.sight.clock) (same_Some _ t e)
    (cond_both (ltb old problem.n) _ _ (λ (u : Stepped). stamp_told u.reply ≤ u.sight.clock) (λ on. omega arith) (λ off. omega arith))
told_by problem v (phase.Looking row column) old t e = subst (λ (u : Stepped). stamp_told u.reply ≤ u.sight.clock) (same_Some _ t e)
    (cond_both (old == 0) _ _ (λ (u : Stepped). stamp_told u.reply ≤ u.sight.clock) (λ on. omega arith) (λ off. omega arith))
told_by problem v (phase.Putting row column at) old t e = subst (λ (u : Stepped). stamp_told u.reply ≤ u.sight.clock) (same_Some _ t e) (omega arith)
told_by problem v (phase.Claiming row column) old t e = subst (λ (u : Stepped). stamp_told u.reply ≤ u.sight.clock) (same_Some _ t e)
    (cond_both (old == 0) _ _ (λ (u : Stepped). stamp_told u.reply ≤ u.sight.clock) (λ on. omega arith) (λ off. omega arith))
told_by problem v (phase.Reading row column holder at) old t e = subst (λ (u : Stepped). stamp_told u.reply ≤ u.sight.clock) (same_Some _ t e) (omega arith)
told_by problem v phase.Ended old t e = absurd (none-some t e)

module _ (problem : Problem) (crew : ℕ) (setting : IsSetting problem crew) where
  calling_of : (s t : State) (h : ClaimedPivots problem crew s) (k : IsTaken problem crew s t) → IsCalling k.change
  calling_of s t h k = calling k.change h.ranges (held_kept problem crew setting s t h k)
      h.published_prefix (h.calls_and_counts.unclaimed k.seat k.change.below) k.move

  -- clocks do not fall
  clocks_rise : (s : State) (e : Event) → ClaimedPivots problem crew s → (i : ℕ) → i < crew →
      (view_at problem s i).clock ≤ (view_at problem (after_event problem s e) i).clock
  clocks_rise s e h i lt = taken problem crew s e h.ranges (λ t. (view_at problem s i).clock ≤ (view_at problem t i).clock) (omega arith)
      (λ t k. each_view k.change (λ j u. (view_at problem s j).clock ≤ u.clock)
      (own_clock s t h k (calling_of s t h k)) (λ j lj other. omega arith) i lt)
    where
      own_clock : (s t : State) (h : ClaimedPivots problem crew s) (k : IsTaken problem crew s t) →
          IsCalling k.change → (view_at problem s k.seat).clock ≤ k.sight.clock
      own_clock s t h k (silent same le) = le
      own_clock s t h k (called c n) = omega (arith, n.later, n.clock)

  clocks_rise_over : (s : State) (es : List Event) → ClaimedPivots problem crew s → (i : ℕ) → i < crew →
      (view_at problem s i).clock ≤ (view_at problem (after_events problem s es) i).clock
  clocks_rise_over s [] h i lt = omega arith
  clocks_rise_over s (e ∷ es) h i lt =
      let first = clocks_rise s e h i lt in
      let rest = clocks_rise_over (after_event problem s e) es (event_keeps problem crew setting s e h) i lt in
      omega (arith, first, rest)

  -- a call has a stamp above the clock
  module _ (s t : State) (h : ClaimedPivots problem crew s) (taken_here : IsTaken problem crew s t) where
    above_clock : IsCalling taken_here.change → (k : Call)
        → taken_here.sight.calls ≡ (view_at problem s taken_here.seat).calls ++ k ∷ [] → (view_at problem s taken_here.seat).clock < k.stamp
    above_clock (silent same le) k more = absurd (omega (
      arith,
      ap length same,
      ap length more,
      length-append (view_at problem s taken_here.seat).calls (k ∷ []),
    ))
    above_clock (called l n) k more =
        let one : l ∷ [] ≡ k ∷ [] = append_cancel_left (view_at problem s taken_here.seat).calls (l ∷ []) (k ∷ []) (sym n.calls ∙ more) in
        let is : l.stamp ≡ k.stamp = ap first_stamp one in
        omega (arith, n.later, is)
      where
        first_stamp : List Call → ℕ
        first_stamp [] = 0
        first_stamp (l ∷ ls) = l.stamp

-- a call has a greater stamp than each that its seat had met before
pub calls_follow : CallsFollowWhatWasMet
calls_follow problem crew setting events more e f t u seats gives gives' k called_k =
    let s : State = state_after problem crew events in
    let h : ClaimedPivots problem crew s = claimed_pivots problem crew setting events in
    let after : State = state_after problem crew (events ++ e ∷ more) in
    let h' : ClaimedPivots problem crew after = claimed_pivots problem crew setting (events ++ e ∷ more) in
    let next = made_next problem crew s e t h.ranges gives in
    let next' = made_next problem crew after f u h'.ranges gives' in
    let v : Sight = view_at problem s e.seat in
    let w : Sight = view_at problem after f.seat in
    let told : stamp_told t.reply ≤ t.sight.clock = told_by problem (record v { steps = v.steps + 1 }) v.phase (word_at problem s (spot_of v.phase)) t next.1 in
    let stepped : after_event problem s e ≡ with_step problem s e.seat (Some t) = ap (with_step problem s e.seat) gives in
    let now : (view_at problem (after_event problem s e) e.seat).clock ≡ t.sight.clock =
    ap (λ (z : State). (view_at problem z e.seat).clock) stepped ∙ ap (λ (z : Sight). z.clock) (made_change problem crew s e t h.ranges next.0).now in
    let rest : (view_at problem (after_event problem s e) e.seat).clock ≤ (view_at problem (after_events problem (after_event problem s e) more) e.seat).clock =
    clocks_rise_over problem crew setting (after_event problem s e) more (event_keeps problem crew setting s e h) e.seat next.0 in
    let same : (view_at problem (after_events problem (after_event problem s e) more) e.seat).clock ≡ w.clock =
    ap (λ (z : State). (view_at problem z e.seat).clock) (sym (after_events-append problem (opening problem crew) events (e ∷ more)))
    ∙ ap (λ (i : ℕ). (view_at problem after i).clock) seats in
    let made : IsTaken problem crew after (with_step problem after f.seat (Some u)) = record {
      seat = f.seat;
      sight = u.sight;
      spot = spot_of w.phase;
      word = u.word;
      change = made_change problem crew after f u h'.ranges next'.0;
      move = move_of problem w (word_at problem after (spot_of w.phase)) u next'.1;
    } in
    let above : w.clock < k.stamp = above_clock problem crew setting after (with_step problem after f.seat (Some u)) h' made
    (calling_of problem crew setting after (with_step problem after f.seat (Some u)) h' made) k called_k in
    omega (arith, told, now, rest, same, above)
