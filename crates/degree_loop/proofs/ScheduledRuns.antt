-- Runs whose events the schedule generator chooses.
use Rattle.std.proofs.Common.{◌≡◌, ◌+◌, ◌-◌, ◌*◌, ◌<◌, ◌≤◌, ◌++◌, ◌∷◌, [], ℕ, true, List, Some, length, refl, sym, ap, ◌∙◌, arith, append_assoc}
use Rattle.std.proofs.Common.{append-nil, subst}
use Rattle.std.specs.List.{sum_by}
use Rattle.back_reduce.specs.declared.problem.Problem.{Problem}
use Rattle.pivot_core.specs.declared.event.Event.{Event}
use Rattle.pivot_core.specs.declared.event.Kind.{Kind}
use Rattle.pivot_core.specs.declared.event.Kind.TheVariants as kind
use Rattle.pivot_core.specs.declared.sight.Sight.{Sight}
use Rattle.pivot_core.specs.declared.view.Phase.{Phase}
use Rattle.pivot_core.specs.declared.view.Phase.TheVariants as phase
use Rattle.pivot_core.specs.Calls.{steps_of_row}
use Rattle.pivot_core.specs.Cores.{Machine}
use Rattle.pivot_core.specs.Finished.{Finished}
use Rattle.pivot_core.specs.Laws.{ClaimedPivotsLaw, IsSetting, StepCounts, logs_of}
use Rattle.pivot_core.specs.Rule.{Ranges}
use Rattle.pivot_core.specs.Runs.{HasEnded, State, after_event, opening, state_after, view_at, with_step, word_at}
use Rattle.pivot_core.specs.Steps.{Stepped, by_phase, is_next, spot_of}
use Rattle.pivot_core.proofs.EventsMade.{makes_state}
use Rattle.pivot_core.proofs.Moves.{seat_and_step}
use Rattle.pivot_core.proofs.RunLaws.{after_events-append}
use Rattle.pivot_core.proofs.Table.{made_change, move_of}
use Rattle.field_table.specs.Draws.{next_number}
use Rattle.degree_loop.specs.Schedule.{IsChosen, IsScheduled, IsScheduledRun}

-- a kind that comes next gives a step
some_step : (problem : Problem) (v : Sight) (f : Phase) (old : ℕ) (k : Kind) → is_next k f ≡ true → (t : Stepped) × (by_phase problem v f old ≡ Some t)
some_step problem v phase.Fresh old k e = (_, refl)
some_step problem v (phase.Looking row column) old k e = (_, refl)
some_step problem v (phase.Putting row column at) old k e = (_, refl)
some_step problem v (phase.Claiming row column) old k e = (_, refl)
some_step problem v (phase.Reading row column holder at) old k e = (_, refl)
some_step problem v phase.Ended old kind.Draw e = cc e
some_step problem v phase.Ended old kind.Look e = cc e
some_step problem v phase.Ended old kind.Put e = cc e
some_step problem v phase.Ended old kind.Claim e = cc e
some_step problem v phase.Ended old kind.Read e = cc e

-- the steps of all views
abbrev pub steps_made : State → ℕ
steps_made s = sum_by (λ (v : Sight). v.steps) s.views

-- a step of the next kind is one more
pub one_more_step : (problem : Problem) (crew : ℕ) (s : State) (e : Event) → Ranges problem crew s → e.seat < crew →
    is_next e.kind (view_at problem s e.seat).phase ≡ true
    → steps_made (after_event problem s e) ≡ steps_made s + 1
one_more_step problem crew s e ranges lt next =
    let v : Sight = view_at problem s e.seat in
    let old : ℕ = word_at problem s (spot_of v.phase) in
    let some = some_step problem (record v { steps = v.steps + 1 }) v.phase old e.kind next in
    let there : e.seat < length s.views = omega (arith, lt, ranges.count) in
    let change = made_change problem crew s e some.0 ranges lt in
    let sums = change.sums (λ (u : Sight). u.steps) in
    let same : steps_made (after_event problem s e) ≡ steps_made (with_step problem s e.seat (Some some.0)) =
    ap steps_made (makes_state problem s e some.0 there next some.1) in
    omega (arith, sums, same, (seat_and_step (move_of problem v old some.0 some.1)).1)

-- a machine after events from which on the number chooses the rest of the schedule
pub record IsSoFar (problem : Problem) (crew schedule : ℕ) (core : Machine) (number : ℕ) : Type 0 where
  pub setting : IsSetting problem crew
  pub problem_is : core.problem ≡ problem
  pub crew_is : core.crew ≡ crew
  pub events : List Event
  pub reached : core.state ≡ state_after problem crew events
  pub rest : (more : List Event) → IsScheduled problem core.state number more → IsScheduled problem (opening problem crew) schedule (events ++ more)

-- the most steps of a crew on a problem
abbrev pub most_steps : Problem → ℕ → ℕ
most_steps problem crew = problem.n * steps_of_row problem.m + crew

module _ (laws : ClaimedPivotsLaw) (counts : StepCounts) (problem : Problem) (crew schedule : ℕ) where
  module _ (core : Machine) (number : ℕ) (h : IsSoFar problem crew schedule core number) where
    so_far_ranges : Ranges problem crew core.state
    so_far_ranges = subst (Ranges problem crew) (sym h.reached) (laws problem crew h.setting h.events).ranges

    module _ (found : ℕ) (is : found ≡ next_number number) (e : Event) (lt : e.seat < crew)
        (chosen : IsChosen core.problem core.state found e) (after : Machine)
        (state_is : after.state ≡ after_event core.problem core.state e) where
      own_chosen : IsChosen problem core.state (next_number number) e
      own_chosen = subst (λ (q : Problem). IsChosen q core.state (next_number number) e) h.problem_is
          (subst (λ (s : ℕ). IsChosen core.problem core.state s e) is chosen)

      own_state : after.state ≡ after_event problem core.state e
      own_state = state_is ∙ ap (λ (q : Problem). after_event q core.state e) h.problem_is

      reached_next : after.state ≡ state_after problem crew (h.events ++ e ∷ [])
      reached_next = own_state ∙ ap (λ (s : State). after_event problem s e) h.reached
          ∙ sym (after_events-append problem (opening problem crew) h.events (e ∷ []))

      -- the event that the next number chooses takes the machine one step further on the schedule
      pub next_so_far : after.problem ≡ core.problem → after.crew ≡ core.crew → IsSoFar problem crew schedule after found
      next_so_far problem_is crew_is = record {
        setting = h.setting;
        problem_is = problem_is ∙ h.problem_is;
        crew_is = crew_is ∙ h.crew_is;
        events = h.events ++ e ∷ [];
        reached = reached_next;
        rest = λ more k.
            subst (IsScheduled problem (opening problem crew) schedule) (sym (append_assoc h.events (e ∷ []) more))
            (h.rest (e ∷ more) (
              own_chosen,
              subst (λ (s : State). IsScheduled problem s (next_number number) more) own_state
                  (subst (λ (n : ℕ). IsScheduled problem after.state n more) is k),
            ));
      }

      -- after the step fewer of the most steps are left
      pub fewer_left : most_steps problem crew - steps_made after.state < most_steps problem crew - steps_made core.state
      fewer_left =
          let one : steps_made after.state ≡ steps_made core.state + 1 = ap steps_made own_state
          ∙ one_more_step problem crew core.state e so_far_ranges lt own_chosen.kind in
          let most : steps_made after.state ≤ most_steps problem crew =
          subst (λ (s : State). steps_made s ≤ most_steps problem crew) (sym reached_next)
          (counts problem crew h.setting (h.events ++ e ∷ [])).all_steps in
          omega (arith, one, most)

    -- when every view has ended, the problem and the logs are those of a run that the schedule chooses
    pub ended_schedule : HasEnded core.problem core.state → (f : Finished) → f.problem ≡ core.problem → f.logs ≡ logs_of core.state →
        IsScheduledRun problem crew schedule f
    ended_schedule ended f problem_is logs = record {
      problem_is = problem_is ∙ h.problem_is;
      events = h.events;
      scheduled = subst (IsScheduled problem (opening problem crew) schedule) (append-nil h.events)
          (h.rest [] (subst (λ (q : Problem). HasEnded q core.state) h.problem_is ended));
      logs = logs ∙ ap logs_of h.reached;
    }
