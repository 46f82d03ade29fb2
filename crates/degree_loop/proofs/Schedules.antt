-- The generator leaves no choice.
use Rattle.std.proofs.Common.{◌≡◌, ◌+◌, ◌<◌, ◌==◌, ℕ, zero, suc, Bool, true, false, [], ◌∷◌, Option, None, length, refl, sym, ap, ◌∙◌, arith, subst, ltb}
use Rattle.std.specs.Prelude.{if◌then◌else◌}
use Rattle.back_reduce.specs.declared.problem.Problem.{Problem}
use Rattle.pivot_core.specs.declared.event.Event.{Event}
use Rattle.pivot_core.specs.declared.view.Phase.{Phase}
use Rattle.pivot_core.specs.Phases.{is_ended}
use Rattle.pivot_core.specs.Runs.{HasEnded, State, after_event, after_events, view_at, with_step, word_at}
use Rattle.pivot_core.specs.Steps.{Stepped, is_next, met, spot_of}
use Rattle.field_table.specs.Draws.{next_number}
use Rattle.degree_loop.specs.Schedule.{IsChosen, IsScheduled, LeadsToOneState}
use Rattle.degree_loop.proofs.Going.{going_test, passing, passing-none}

none_passes : (p : ℕ → Bool) (n : ℕ) → ((i : ℕ) → i < n → p i ≡ false) → passing p n ≡ []
none_passes p zero none = refl
none_passes p (suc n) none =
    let next : suc n ≡ n + 1 = omega arith in
    ap (passing p) next ∙ passing-none p n (none n (omega arith)) ∙ none_passes p n (λ i lt. none i (omega (arith, lt)))

-- no seat is there to choose where every view has ended
none_chosen : (problem : Problem) (s : State) (number : ℕ) (e : Event) → HasEnded problem s → IsChosen problem s number e → ⊥
none_chosen problem s number e ended h = h.some (none_passes (going_test problem s) (length s.views) (λ i lt. ap (λ (f : Phase). is_ended f == 0) (ended i lt)))

-- a step of the next kind of a seat
abbrev made_by : Problem → State → ℕ → Option Stepped
made_by problem s seat = if ltb seat (length s.views) then met problem (view_at problem s seat)
    (word_at problem s (spot_of (view_at problem s seat).phase)) else None

made_next : (problem : Problem) (s : State) (e : Event) → is_next e.kind (view_at problem s e.seat).phase ≡ true →
    after_event problem s e ≡ with_step problem s e.seat (made_by problem s e.seat)
made_next problem s e next =
    ap (λ (b : Bool). with_step problem s e.seat (if ltb e.seat (length s.views) then
    (if b then met problem (view_at problem s e.seat) (word_at problem s (spot_of (view_at problem s e.seat).phase)) else None) else
    None)) next

same_state : (problem : Problem) (s : State) (number : ℕ) (e f : Event) → IsChosen problem s number e → IsChosen problem s number f →
    after_event problem s e ≡ after_event problem s f
same_state problem s number e f h k =
    made_next problem s e h.kind ∙ ap (λ (seat : ℕ). with_step problem s seat (made_by problem s seat)) (h.seat ∙ sym k.seat)
    ∙ sym (made_next problem s f k.kind)

-- two runs that one schedule chooses from a state lead to one state
pub leads_to_one_state : LeadsToOneState
leads_to_one_state problem s number [] [] h k = refl
leads_to_one_state problem s number [] (f ∷ fs) h k = absurd (none_chosen problem s (next_number number) f h k.0)
leads_to_one_state problem s number (e ∷ es) [] h k = absurd (none_chosen problem s (next_number number) e k h.0)
leads_to_one_state problem s number (e ∷ es) (f ∷ fs) h k =
    let same : after_event problem s e ≡ after_event problem s f = same_state problem s (next_number number) e f h.0 k.0 in
    let moved : IsScheduled problem (after_event problem s f) (next_number number) es =
    subst (λ (t : State). IsScheduled problem t (next_number number) es) same h.1 in
    ap (λ (t : State). after_events problem t es) same ∙ leads_to_one_state problem (after_event problem s f) (next_number number) es fs moved k.1
