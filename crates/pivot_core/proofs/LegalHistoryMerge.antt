-- The history has each seat's calls in the seat's own order.
use Rattle.std.proofs.Common.{◌≡◌, ◌⊎◌, inl, inr, ℕ, ◌<◌, ◌≤◌, All, AllPairs, List, [], length, get_or, sym, ap, ◌∙◌, arith, subst}
use Rattle.std.proofs.lemmas.Bool.{cases_lt}
use Rattle.std.proofs.lemmas.List.Elements.{All-weaker}
use Rattle.ideal_laws.specs.declared.account.Call.{Call}
use Rattle.back_reduce.specs.declared.problem.Problem.{Problem}
use Rattle.pivot_core.specs.Runs.{State, state_after, view_at}
use Rattle.pivot_core.specs.Claimed.{ClaimedPivots}
use Rattle.pivot_core.specs.History.{joined_calls, merged}
use Rattle.pivot_core.specs.Laws.{HistoryMergesLogs, IsMergeOfLogs, calls_of, logs_of}
use Rattle.pivot_core.proofs.Kept.{claimed_pivots}
use Rattle.pivot_core.proofs.LegalHistory.{each_call, length-logs, log_at}
use Rattle.pivot_core.proofs.SortedCalls.{IsNotAfter, not_after_seat, not_after_stamp, sorted_calls-in_order}
use Rattle.pivot_core.proofs.LegalHistorySeats.{IsBefore, IsElsewhere, calls_of-none, calls_of-pairs, joined_calls-one, sorted_calls-own}

module _ (problem : Problem) (crew : ℕ) (s : State) (h : ClaimedPivots problem crew s) where
  abbrev logs : List (List Call)
  logs = logs_of s

  abbrev calls : List Call
  calls = merged logs

  seats : All (λ k. k.seat < crew) calls
  seats = each_call problem crew s h (λ k. k.seat < crew) (λ i lt j d within. omega (arith, lt, (h.calls_and_counts.each i lt j d within).own))

  own_log : (i : ℕ) → i < crew → calls_of i calls ≡ (view_at problem s i).calls
  own_log i lt =
      let seat_is : (j : ℕ) → j < crew → All (λ k. k.seat ≡ j) (get_or logs j []) =
      λ j below. subst (All (λ k. k.seat ≡ j)) (sym (log_at problem crew s h j below)) (λ a d within. (h.calls_and_counts.each j below a d within).own) in
      let joined : calls_of i (joined_calls logs) ≡ (view_at problem s i).calls =
      joined_calls-one i logs i (seat_is i lt)
      (λ j below other. All-weaker (λ k. k.seat ≡ j) (IsElsewhere i) (λ k is e. other (sym is ∙ e)) (get_or logs j [])
      (seat_is j (omega (arith, below, length-logs problem crew s h))))
      ∙ log_at problem crew s h i lt in
      sorted_calls-own i (joined_calls logs) (subst (AllPairs IsBefore) (sym joined) (h.calls_and_counts.rising i lt)) ∙ joined

  each_rising : (i : ℕ) → AllPairs IsBefore (calls_of i calls)
  each_rising i = elim (cases_lt i crew) [
    | inl lt ↦ subst (AllPairs IsBefore) (sym (own_log i lt)) (h.calls_and_counts.rising i lt)
    | inr out ↦ (
        let none : calls_of i calls ≡ [] = calls_of-none i calls (All-weaker (λ k. k.seat < crew) (IsElsewhere i)
        (λ k below e. omega (arith, below, e, out)) calls seats) in
        λ a b d lt within. absurd (omega (arith, lt, within, ap (λ (ks : List Call). length ks) none)))
  ]

  in_order : (k l : Call) → IsNotAfter k l → (k.seat ≡ l.seat → k.stamp < l.stamp) → (k.stamp < l.stamp) ⊎ ((k.stamp ≡ l.stamp) × (k.seat < l.seat))
  in_order k l order own = elim (cases_lt k.stamp l.stamp) [
    | inl before ↦ inl before
    | inr le ↦ inr (omega (arith, le, not_after_stamp k l order), by_seat le)
  ]
    where
      by_seat : l.stamp ≤ k.stamp → k.seat < l.seat
      by_seat le = elim (cases_lt k.seat l.seat) [
        | inl lt ↦ lt
        | inr from ↦ absurd (omega (arith, le, own (omega (arith, from, not_after_seat k l order le))))
      ]

  -- under the rule of claimed pivots the calls by (stamp, seat) have those of each seat as its log has them, and no others
  pub merge_of_logs : IsMergeOfLogs problem crew s
  merge_of_logs = record {
    logs = own_log;
    seats = seats;
    order = λ a b d lt within. in_order (get_or calls a d) (get_or calls b d) (sorted_calls-in_order (joined_calls logs) a b d lt within)
        (calls_of-pairs IsBefore calls each_rising a b d lt within);
  }

-- in the state after any run the calls by (stamp, seat) have those of each seat as its log has them, and no others
pub history_merges_logs : HistoryMergesLogs
history_merges_logs problem crew setting events = merge_of_logs problem crew (state_after problem crew events) (claimed_pivots problem crew setting events)
