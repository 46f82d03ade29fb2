-- The rule of claimed pivots is kept by every move, and so holds in every run.
use Rattle.std.proofs.Common.{◌≢◌, ℕ, ◌+◌, ◌<◌, ◌≤◌, ◌^◌, All, AllPairs, List, [], ◌∷◌, arith}
use Rattle.back_reduce.specs.declared.problem.Problem.{Problem}
use Rattle.pivot_core.specs.declared.event.Event.{Event}
use Rattle.pivot_core.specs.Runs.{State, after_event, after_events, opening, state_after, view_at}
use Rattle.pivot_core.specs.Calls.{CallsAndCounts, IsBounded, IsCall, IsUnclaimed, call_count}
use Rattle.pivot_core.specs.Claimed.{ClaimedPivots}
use Rattle.pivot_core.specs.Laws.{IsSetting}
use Rattle.pivot_core.proofs.CallsKept.{call_stays, calling, own_columns, own_each, own_rising}
use Rattle.pivot_core.proofs.Changes.{each_view}
use Rattle.pivot_core.proofs.CounterKept.{counter_sum_kept}
use Rattle.pivot_core.proofs.Counts.{call_count-few}
use Rattle.pivot_core.proofs.CountsKept.{call_count-rises, own_clock, own_unclaimed, stamps_kept, won_once}
use Rattle.pivot_core.proofs.DisjointKept.{disjoint_rows_kept}
use Rattle.pivot_core.proofs.Effects.{KeepsHeld, keeps_held}
use Rattle.pivot_core.proofs.HeldKept.{held_in_span_kept}
use Rattle.pivot_core.proofs.ModuloKept.{current_modulo_kept}
use Rattle.pivot_core.proofs.Opening.{opens_claimed}
use Rattle.pivot_core.proofs.PublishedKept.{published_prefix_kept}
use Rattle.pivot_core.proofs.RangesKept.{ranges_kept}
use Rattle.pivot_core.proofs.ReadKept.{read_prefix_kept}
use Rattle.pivot_core.proofs.SettledKept.{settled_in_span_kept}
use Rattle.pivot_core.proofs.StepsKept.{own_bounded}
use Rattle.pivot_core.proofs.Table.{IsTaken, taken}

module _ (problem : Problem) (crew : ℕ) (setting : IsSetting problem crew) where
  abbrev Rule : State → Type 0
  Rule s = ClaimedPivots problem crew s

  module _ (s t : State) (h : Rule s) (k : IsTaken problem crew s t) where
    -- under the rule of claimed pivots a move leaves held columns held by the same row and stamp, with the same held row
    pub held_kept : KeepsHeld problem s t
    held_kept = keeps_held k.change h.disjoint_rows k.move

    -- clocks are far below the greatest stamp
    pub clock_small : (i : ℕ) → i < crew → (view_at problem s i).clock + 1 < 2 ^ 32
    clock_small i lt =
        let few = call_count-few problem crew s h.ranges h.calls_and_counts.each h.calls_and_counts.columns h.disjoint_rows setting.few in
        omega (arith, few, h.calls_and_counts.clocks i lt)

    calls_kept : CallsAndCounts problem crew t
    calls_kept =
        let now = calling k.change h.ranges held_kept h.published_prefix
        (h.calls_and_counts.unclaimed k.seat k.change.below) k.move in
        let own = h.calls_and_counts.each k.seat k.change.below in
        record {
          each = each_view k.change (λ i v. All (IsCall problem t i v.clock) v.calls)
              (own_each k.change held_kept own now)
              (λ i lt other j d within. call_stays problem s t held_kept i (view_at problem s i).clock (view_at problem s i).clock
              (omega arith) _ (h.calls_and_counts.each i lt j d within));
          columns = each_view k.change (λ i v. AllPairs (λ e f. e.column ≢ f.column) v.calls)
              (own_columns k.change held_kept own now
              (h.calls_and_counts.columns k.seat k.change.below)) (λ i lt other. h.calls_and_counts.columns i lt);
          rising = each_view k.change (λ i v. AllPairs (λ e f. e.stamp < f.stamp) v.calls)
              (own_rising k.change held_kept own now
              (h.calls_and_counts.rising k.seat k.change.below)) (λ i lt other. h.calls_and_counts.rising i lt);
          won = won_once k.change h.ranges h.calls_and_counts.each h.calls_and_counts.won k.move;
          clocks = each_view k.change (λ i v. v.clock ≤ call_count t)
              (own_clock k.change h.ranges (h.calls_and_counts.clocks k.seat k.change.below)
              h.calls_and_counts.stamps k.move)
              (λ i lt other. omega (arith, h.calls_and_counts.clocks i lt, call_count-rises k.change now));
          stamps = stamps_kept k.change h.ranges
              (h.calls_and_counts.clocks k.seat k.change.below) h.calls_and_counts.stamps now k.move;
          unclaimed = each_view k.change (λ i v. IsUnclaimed v.phase v.calls)
              (own_unclaimed k.change h.ranges h.calls_and_counts.each
              (h.calls_and_counts.unclaimed k.seat k.change.below) k.move) (λ i lt other. h.calls_and_counts.unclaimed i lt);
          steps = each_view k.change (λ i v. IsBounded problem.m v.phase v.drawn v.steps)
              (own_bounded k.change setting.field h.ranges h.held_in_span h.published_prefix
              h.read_prefix (h.calls_and_counts.steps k.seat k.change.below) k.move) (λ i lt other. h.calls_and_counts.steps i lt);
        }

    -- where the rule of claimed pivots holds in a state, it holds after a move
    pub rule_kept : Rule t
    rule_kept = record {
      ranges = ranges_kept k.change h.ranges (λ won. clock_small k.seat k.change.below) k.move;
      counter_sum = counter_sum_kept k.change h.counter_sum k.move;
      disjoint_rows = disjoint_rows_kept k.change h.ranges h.disjoint_rows k.move;
      held_in_span = held_in_span_kept k.change h.ranges h.disjoint_rows h.published_prefix
          h.current_modulo_held h.held_in_span k.move;
      published_prefix = published_prefix_kept k.change h.ranges h.disjoint_rows setting.field
          h.published_prefix k.move;
      read_prefix = read_prefix_kept k.change h.ranges h.disjoint_rows h.read_prefix k.move;
      current_modulo_held = current_modulo_kept k.change h.ranges h.disjoint_rows
          h.read_prefix h.current_modulo_held k.move;
      settled_in_span = settled_in_span_kept k.change h.ranges h.disjoint_rows
          h.published_prefix h.read_prefix h.current_modulo_held h.settled_in_span k.move;
      calls_and_counts = calls_kept;
    }

  -- every event keeps the rule
  pub event_keeps : (s : State) (e : Event) → Rule s → Rule (after_event problem s e)
  event_keeps s e h = taken problem crew s e h.ranges Rule h (λ t k. rule_kept s t h k)

  -- where the rule of claimed pivots holds in a state, it holds after any events
  pub events_keep : (s : State) (es : List Event) → Rule s → Rule (after_events problem s es)
  events_keep s [] h = h
  events_keep s (e ∷ es) h = events_keep (after_event problem s e) es (event_keeps s e h)

  -- the rule of claimed pivots holds in the state after any run
  pub claimed_pivots : (es : List Event) → Rule (state_after problem crew es)
  claimed_pivots es = events_keep (opening problem crew) es (opens_claimed problem crew)
