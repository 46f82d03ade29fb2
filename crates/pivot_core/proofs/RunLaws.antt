-- Held rows over whole runs, and in ended states.
use Rattle.std.proofs.Common.{◌≡◌, ℕ, ◌<◌, ◌≤◌, List, [], ◌∷◌, ◌++◌, None, refl, sym, ap, ◌∙◌, arith, subst}
use Rattle.pivot_core.proofs.ClaimWords.{value_in-free}
use Rattle.std.specs.List.{sum_by}
use Rattle.std.proofs.lemmas.List.Elements.{All-get_or}
use Rattle.std.proofs.lemmas.List.Sums.{get_or-le-sum_by}
use Rattle.linear_algebra.proofs.Elimination.{IsInSpan-trans}
use Rattle.back_reduce.specs.declared.problem.Problem.{Problem}
use Rattle.back_reduce.specs.Pivots.{ArePivots}
use Rattle.back_reduce.specs.Problems.{rows_of}
use Rattle.back_reduce.proofs.RowLists.{OneOf, row_problem}
use Rattle.pivot_core.specs.declared.sight.Sight.{Sight}
use Rattle.pivot_core.specs.declared.view.Phase.{Phase}
use Rattle.pivot_core.specs.declared.view.Phase.TheVariants as phase
use Rattle.pivot_core.specs.declared.event.Event.{Event}
use Rattle.pivot_core.specs.Words.{counter}
use Rattle.pivot_core.specs.Views.{fresh}
use Rattle.pivot_core.specs.Runs.{HasEnded, IsHeld, State, after_event, after_events, claim_at, holders, opening, state_after}
use Rattle.pivot_core.specs.Runs.{published_at, values, view_at, word_at}
use Rattle.pivot_core.specs.Phases.{HasRow, is_ended}
use Rattle.pivot_core.specs.Claimed.{ClaimedPivots}
use Rattle.pivot_core.specs.Laws.{HeldRowsArePivots, HeldRowsStay, IsSetting}
use Rattle.pivot_core.proofs.Effects.{KeepsHeld, held_after, held_row_after}
use Rattle.pivot_core.proofs.HeldRows.{HeldSpan, Kp, OneHeld, held_holders, held_row-at, held_within, values-before}
use Rattle.pivot_core.proofs.Kept.{claimed_pivots, event_keeps, held_kept}
use Rattle.pivot_core.proofs.Table.{taken}

-- events and then more lead where the later ones lead from the state after the first
pub after_events-append : (problem : Problem) (s : State) (es fs : List Event) →
    after_events problem s (es ++ fs) ≡ after_events problem (after_events problem s es) fs
after_events-append problem s [] fs = refl
after_events-append problem s (e ∷ es) fs = after_events-append problem (after_event problem s e) es fs

KeepsHeld-same : (problem : Problem) (s : State) → KeepsHeld problem s s
KeepsHeld-same problem s = record { claims = λ c h. refl; values = λ c j h lt. refl }

KeepsHeld-trans : (problem : Problem) (s t u : State) → KeepsHeld problem s t → KeepsHeld problem t u → KeepsHeld problem s u
KeepsHeld-trans problem s t u k l = record {
  claims = λ c h. l.claims c (held_after problem s t c k h) ∙ k.claims c h;
  values = λ c j h lt. l.values c j (held_after problem s t c k h) lt ∙ k.values c j h lt;
}

module _ (problem : Problem) (crew : ℕ) (setting : IsSetting problem crew) where
  event_keeps_held : (s : State) (e : Event) → ClaimedPivots problem crew s → KeepsHeld problem s (after_event problem s e)
  event_keeps_held s e h = taken problem crew s e h.ranges (KeepsHeld problem s) (KeepsHeld-same problem s) (λ t k. held_kept problem crew setting s t h k)

  -- under the rule of claimed pivots events leave held columns held by the same row and stamp, with the same held row
  pub run_keeps_held : (s : State) (es : List Event) → ClaimedPivots problem crew s → KeepsHeld problem s (after_events problem s es)
  run_keeps_held s [] h = KeepsHeld-same problem s
  run_keeps_held s (e ∷ es) h =
      let t : State = after_event problem s e in
      KeepsHeld-trans problem s t (after_events problem t es) (event_keeps_held s e h) (run_keeps_held t es (event_keeps problem crew setting s e h))

-- over a run a held row never changes, and its column keeps its claim word
pub held_rows_stay : HeldRowsStay
held_rows_stay problem crew setting events more c h =
    let s : State = state_after problem crew events in
    let keeps : KeepsHeld problem s (state_after problem crew (events ++ more)) =
    subst (KeepsHeld problem s) (sym (after_events-append problem (opening problem crew) events more))
    (run_keeps_held problem crew setting s more (claimed_pivots problem crew setting events)) in
    (keeps.claims c h, held_row_after problem s (state_after problem crew (events ++ more)) c keeps h)

-- a column without a holder is not held
values-free : (problem : Problem) (s : State) (c j : ℕ) → holders problem s c ≡ None → values problem s c j ≡ 0
values-free problem s c j none = value_in-free (claim_at problem s c) (published_at problem s) c j none

module _ (problem : Problem) (crew : ℕ) (s : State) (setting : IsSetting problem crew) (h : ClaimedPivots problem crew s) where
  value_at_held : (c k : ℕ) → k < problem.m → IsHeld problem s c → values problem s c k < problem.modulus
  value_at_held c k lt held =
      let row = h.held_in_span.residues c held in
      subst (λ (n : ℕ). n < problem.modulus) (held_row-at problem s c k lt)
      (All-get_or (λ n. n < problem.modulus) _ k 0 (omega (arith, lt, row.size)) row.residues)

  module _ (ended : HasEnded problem s) where
    phase_ended : (i : ℕ) → i < crew → (view_at problem s i).phase ≡ phase.Ended
    phase_ended i lt = ended i (omega (arith, lt, h.ranges.count))

    -- every row is drawn, and none is current
    all_drawn : problem.n ≤ word_at problem s counter
    all_drawn =
        let first : is_ended (view_at problem s 0).phase ≡ 1 = ap is_ended (phase_ended 0 setting.some) in
        let one : is_ended (view_at problem s 0).phase ≤ sum_by (λ (v : Sight). is_ended v.phase) s.views =
        get_or-le-sum_by (λ (v : Sight). is_ended v.phase) s.views 0 (fresh problem.m 0) (omega (arith, h.ranges.count, setting.some))
        in
        let whole = h.counter_sum.whole (omega (arith, first, one)) in
        omega (arith, whole, h.counter_sum.counts)

    none_current : (r i : ℕ) → i < crew → HasRow (view_at problem s i).phase r → ⊥
    none_current r i lt has = subst (λ (f : Phase). HasRow f r) (phase_ended i lt) has

    -- under the rule of claimed pivots the held rows of an ended state are pivots of the problem
    pub ended_pivots : ArePivots problem (holders problem s) (values problem s)
    ended_pivots = record {
      each = λ c r lt e. (let f = held_holders problem s c r lt e in record {
        row = omega (arith, h.disjoint_rows.holders_drawn c f.0, f.1);
        residues = λ k within. value_at_held c k within f.0;
        before = λ k below. values-before problem s c k below;
        one = sym (held_row-at problem s c c lt) ∙ h.held_in_span.one c f.0;
      });
      apart = λ c d r lt lt' e e'. (let f = held_holders problem s c r lt e in let g = held_holders problem s d r lt' e' in
          h.disjoint_rows.holders_apart c d f.0 g.0 (f.1 ∙ sym g.1));
      free = λ c k lt lt' e. values-free problem s c k e;
      span = λ modulus v. (
        held_within problem modulus s h.held_in_span v,
        IsInSpan-trans (Kp problem modulus) ℕ (OneOf problem.modulus modulus (rows_of problem)) (OneHeld problem modulus s)
            (λ u one. (let f = row_problem problem.modulus modulus problem u one in
            subst (HeldSpan problem modulus s) (sym f.2) (h.settled_in_span modulus f.0 (omega (arith, f.1, all_drawn)) (none_current f.0)))) v,
      );
    }

-- where every view has ended after a run, the held rows are pivots of the problem
pub held_rows_are_pivots : HeldRowsArePivots
held_rows_are_pivots problem crew setting events ended = ended_pivots problem crew (state_after problem crew events) setting
    (claimed_pivots problem crew setting events) ended
