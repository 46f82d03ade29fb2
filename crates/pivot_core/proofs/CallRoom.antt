-- A view that claims has fewer calls than there are rows, and columns.
use Rattle.std.proofs.Common.{◌≡◌, ◌+◌, ◌<◌, ◌==◌, ℕ, true, Some, length, min, refl, ap, arith, subst, length-append}
use Rattle.std.proofs.lemmas.Bool.{cond_both}
use Rattle.back_reduce.specs.declared.problem.Problem.{Problem}
use Rattle.pivot_core.specs.declared.view.Phase.{Phase}
use Rattle.pivot_core.specs.declared.view.Phase.TheVariants as phase
use Rattle.pivot_core.specs.declared.sight.Sight.{Sight}
use Rattle.pivot_core.specs.declared.event.Event.{Event}
use Rattle.pivot_core.specs.declared.event.Kind.TheVariants as kind
use Rattle.pivot_core.specs.Steps.{Stepped, by_phase, is_next, met, spot_of}
use Rattle.pivot_core.specs.Runs.{State, after_event, view_at, with_step, word_at}
use Rattle.pivot_core.specs.Claimed.{ClaimedPivots}
use Rattle.pivot_core.specs.Laws.{IsSetting}
use Rattle.pivot_core.specs.Meets.{IsClaiming}
use Rattle.pivot_core.proofs.EventsMade.{makes_state}
use Rattle.pivot_core.proofs.Kept.{event_keeps}
use Rattle.pivot_core.proofs.StepCounts.{counted}
use Rattle.pivot_core.proofs.Table.{made_change}

-- what a claim gives, with one call more
record IsCalled (problem : Problem) (v : Sight) (old : ℕ) : Type 0 where
  -- what the step gives
  pub stepped : Stepped
  -- the view's next step on this word gives it
  pub gives : met problem v old ≡ Some stepped
  -- the view after it has one call more
  pub more : length stepped.sight.calls ≡ length v.calls + 1

called_at : (problem : Problem) (v : Sight) (old row column : ℕ) → v.phase ≡ phase.Claiming row column → IsCalled problem v old
called_at problem v old row column is = record {
  stepped = _;
  gives = ap (λ (f : Phase). by_phase problem (record v { steps = v.steps + 1 }) f old) is;
  more = cond_both (old == 0) _ _ (λ (t : Stepped). length t.sight.calls ≡ length v.calls + 1) (λ on. length-append v.calls _) (λ off. length-append v.calls _);
}

module _ (problem : Problem) (crew : ℕ) (setting : IsSetting problem crew) (s : State) (h : ClaimedPivots problem crew s) (i : ℕ) (lt : i < crew) where
  abbrev v : Sight
  v = view_at problem s i

  abbrev e : Event
  e = record { seat = i; kind = kind.Claim }

  few_calls : IsCalled problem v (word_at problem s (spot_of v.phase)) → is_next kind.Claim v.phase ≡ true → length v.calls < min problem.n problem.m
  few_calls called next =
      let t : Stepped = called.stepped in
      let after : State = with_step problem s i (Some t) in
      let made : after_event problem s e ≡ after = makes_state problem s e t (omega (arith, lt, h.ranges.count)) next called.gives in
      let rule : ClaimedPivots problem crew after = subst (ClaimedPivots problem crew) made (event_keeps problem crew setting s e h) in
      let now : view_at problem after i ≡ t.sight = (made_change problem crew s e t h.ranges lt).now in
      omega (arith, (counted problem crew after rule).claims i lt, ap (λ (w : Sight). length w.calls) now, called.more)

  by_claim : (f : Phase) → v.phase ≡ f → IsClaiming f → length v.calls < min problem.n problem.m
  by_claim phase.Fresh is claims = absurd claims
  by_claim (phase.Looking row column) is claims = absurd claims
  by_claim (phase.Putting row column at) is claims = absurd claims
  by_claim (phase.Claiming row column) is claims = few_calls (called_at problem v (word_at problem s (spot_of v.phase)) row column is)
      (ap (is_next kind.Claim) is)
  by_claim (phase.Reading row column holder at) is claims = absurd claims
  by_claim phase.Ended is claims = absurd claims

  -- under the rule of claimed pivots, a view whose next step is a claim has fewer calls than there are rows, and than columns
  pub room_for_call : IsClaiming v.phase → length v.calls < min problem.n problem.m
  room_for_call claims = by_claim v.phase refl claims
