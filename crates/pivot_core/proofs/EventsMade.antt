-- The event of a seat that is there, of the kind that comes next, is made.
use Rattle.std.proofs.Common.{◌≡◌, ◌<◌, ◌≤◌, ℕ, true, false, Option, None, Some, length, ltb, refl, ap, ◌∙◌}
use Rattle.std.proofs.lemmas.Bool.{cond_both, cond-true, cond-false, lt-ltb, le-ltb}
use Rattle.back_reduce.specs.declared.problem.Problem.{Problem}
use Rattle.pivot_core.specs.declared.sight.Sight.{Sight}
use Rattle.pivot_core.specs.declared.event.Event.{Event}
use Rattle.pivot_core.specs.Steps.{Stepped, is_next, met, spot_of, step}
use Rattle.pivot_core.specs.Runs.{State, after_event, step_at, view_at, with_step, word_at}

module _ (problem : Problem) (s : State) (e : Event) where
  abbrev own : Sight
  own = view_at problem s e.seat

  abbrev old : ℕ
  old = word_at problem s (spot_of own.phase)

  -- nothing is made where no view is there, or another kind comes next
  pub none_there : length s.views ≤ e.seat → step_at problem s e ≡ None
  none_there le = cond-false _ _ _ (le-ltb e.seat (length s.views) le)

  -- no step is made where the event's kind is not the next of its view
  pub none_next : is_next e.kind own.phase ≡ false → step_at problem s e ≡ None
  none_next not = cond_both (ltb e.seat (length s.views)) (step problem own e.kind old) None (λ (o : Option Stepped). o ≡ None)
      (λ on. cond-false _ _ _ not) (λ off. refl)

  module _ (t : Stepped) (there : e.seat < length s.views) (next : is_next e.kind own.phase ≡ true) (gives : met problem own old ≡ Some t) where
    -- where the seat is there and the kind is its next, the step of the event is what the view's next step gives on the word that it meets
    pub makes : step_at problem s e ≡ Some t
    makes = cond-true _ _ _ (lt-ltb e.seat (length s.views) there) ∙ cond-true _ _ _ next ∙ gives

    -- the state after the event is the one with this step made
    pub makes_state : after_event problem s e ≡ with_step problem s e.seat (Some t)
    makes_state = ap (with_step problem s e.seat) makes
