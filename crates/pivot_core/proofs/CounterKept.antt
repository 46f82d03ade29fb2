-- Counter sum: every move keeps the clause.
use Rattle.std.proofs.Common.{◌≡◌, inl, inr, ℕ, zero, suc, ◌+◌, List, sym, ap, ◌∙◌, arith, refl}
use Rattle.std.specs.List.{sum_by}
use Rattle.back_reduce.specs.declared.problem.Problem.{Problem}
use Rattle.pivot_core.specs.declared.view.Phase.{Phase}
use Rattle.pivot_core.specs.declared.sight.Sight.{Sight}
use Rattle.pivot_core.specs.Words.{Spot, counter}
use Rattle.pivot_core.specs.Runs.{State, view_at, word_at}
use Rattle.pivot_core.specs.Phases.{is_ended}
use Rattle.pivot_core.specs.Rule.{CounterSum}
use Rattle.pivot_core.proofs.Changes.{IsChange, word_left, word_met}
use Rattle.pivot_core.proofs.Effects.{counter_cases}
use Rattle.pivot_core.proofs.Moves.{IsDraw, IsEnd, IsMove, IsSettling, given_up, goes_on, draws, ends, looks_free, looks_held, puts, wins, loses}
use Rattle.pivot_core.proofs.Moves.{reads_more, reads_last}

-- a row that settles leaves a view that has not ended
not_ended : (problem : Problem) (y : List ℕ) (row : ℕ) (w : Sight) → IsSettling problem y row w → is_ended w.phase ≡ 0
not_ended problem y row w (goes_on within now current seen) = ap is_ended now
not_ended problem y row w (given_up past now current seen) = ap is_ended now

module _ {problem : Problem} {crew : ℕ} {s t : State} {seat : ℕ} {w : Sight} {a : Spot} {x : ℕ} (c : IsChange problem crew s t seat w a x) where
  abbrev v : Sight
  v = view_at problem s seat

  abbrev old : ℕ
  old = word_at problem s a

  abbrev drawn_in : State → ℕ
  drawn_in u = sum_by (λ (z : Sight). z.drawn) u.views

  abbrev ended_in : State → ℕ
  ended_in u = sum_by (λ (z : Sight). is_ended z.phase) u.views

  drawn_sum : drawn_in t + v.drawn ≡ drawn_in s + w.drawn
  drawn_sum = c.sums (λ (z : Sight). z.drawn)

  ended_sum : ended_in t + is_ended v.phase ≡ ended_in s + is_ended w.phase
  ended_sum = c.sums (λ (z : Sight). is_ended z.phase)

  -- a move that draws no row and ends no view
  other_counter_sum : word_at problem t counter ≡ word_at problem s counter → w.drawn ≡ v.drawn → is_ended w.phase ≡ is_ended v.phase →
      CounterSum problem s → CounterSum problem t
  other_counter_sum same drawn ended r = record {
    counts = omega (arith, same, r.counts, drawn_sum, ended_sum, drawn, ended);
    few = omega (arith, r.few, drawn_sum, drawn);
    whole = λ some. (let all = r.whole (omega (arith, some, ended_sum, ended)) in omega (arith, all, drawn_sum, drawn));
  }

  draw_counter_sum : IsDraw problem v old w a x → CounterSum problem s → CounterSum problem t
  draw_counter_sum m r =
      let met : word_at problem s counter ≡ old = word_met c m.spot in
      let now : word_at problem t counter ≡ old + 1 = word_left c m.spot ∙ m.word in
      let before : is_ended v.phase ≡ 0 = ap is_ended m.was in
      let after : is_ended w.phase ≡ 0 = not_ended problem _ old w m.settling in
      let none_ended : ended_in s ≡ 0 = none_of met (ended_in s) refl in
      record {
        counts = omega (arith, now, met, r.counts, drawn_sum, ended_sum, m.later.drawn, before, after);
        few = omega (arith, met, m.some, r.counts, drawn_sum, m.later.drawn, none_ended);
        whole = λ some. absurd (omega (arith, some, none_ended, ended_sum, before, after));
      }
    where
      none_of : word_at problem s counter ≡ old → (k : ℕ) → k ≡ ended_in s → ended_in s ≡ 0
      none_of met zero e = sym e
      none_of met (suc k) e = let all = r.whole (omega (arith, e)) in absurd (omega (arith, met, m.some, r.counts, all))

  end_counter_sum : IsEnd problem v old w a x → CounterSum problem s → CounterSum problem t
  end_counter_sum m r =
      let met : word_at problem s counter ≡ old = word_met c m.spot in
      let now : word_at problem t counter ≡ old + 1 = word_left c m.spot ∙ m.word in
      let before : is_ended v.phase ≡ 0 = ap is_ended m.was in
      let after : is_ended w.phase ≡ 1 = ap is_ended m.now in
      let all : drawn_in s ≡ problem.n = whole_of met (ended_in s) refl in
      record {
        counts = omega (arith, now, met, r.counts, drawn_sum, ended_sum, m.later.drawn, before, after);
        few = omega (arith, r.few, drawn_sum, m.later.drawn);
        whole = λ some. omega (arith, all, drawn_sum, m.later.drawn);
      }
    where
      whole_of : word_at problem s counter ≡ old → (k : ℕ) → k ≡ ended_in s → drawn_in s ≡ problem.n
      whole_of met zero e = omega (arith, e, met, m.none, r.counts, r.few)
      whole_of met (suc k) e = r.whole (omega (arith, e))

  -- a move from one phase that has not ended to another
  goes_over : {f g : Phase} → v.phase ≡ f → w.phase ≡ g → is_ended f ≡ 0 → is_ended g ≡ 0 → is_ended w.phase ≡ is_ended v.phase
  goes_over was now before after = ap is_ended now ∙ after ∙ sym before ∙ sym (ap is_ended was)

  -- where the counter is the draws and the ended views together, with all rows drawn once a view has ended, so it is after a move
  pub counter_sum_kept : CounterSum problem s → IsMove problem v old w a x → CounterSum problem t
  counter_sum_kept r move = elim (counter_cases c move) [
    | inl (inl m) ↦ draw_counter_sum m r
    | inl (inr m) ↦ end_counter_sum m r
    | inr same ↦ by_move move same
  ]
    where
      by_move : IsMove problem v old w a x → word_at problem t counter ≡ word_at problem s counter → CounterSum problem t
      by_move (draws m) same = draw_counter_sum m r
      by_move (ends m) same = end_counter_sum m r
      by_move (looks_free m) same = other_counter_sum same m.later.drawn (goes_over m.was m.now refl refl) r
      by_move (looks_held m) same = other_counter_sum same m.later.drawn (goes_over m.was m.now refl refl) r
      by_move (puts m) same = elim m.now [
        | inl more ↦ other_counter_sum same m.later.drawn (goes_over m.was more.1 refl refl) r
        | inr last ↦ other_counter_sum same m.later.drawn (goes_over m.was last.1 refl refl) r
      ]
      by_move (wins m) same = other_counter_sum same m.later.drawn (goes_over m.was m.now refl refl) r
      by_move (loses m) same = other_counter_sum same m.later.drawn (goes_over m.was m.now refl refl) r
      by_move (reads_more m) same = other_counter_sum same m.later.drawn (goes_over m.was m.now refl refl) r
      by_move (reads_last m) same = other_counter_sum same m.later.drawn (not_ended problem _ m.row w m.settling ∙ sym (ap is_ended m.was)) r
