-- The machine after the step of an event.
use Rattle.std.proofs.Common.{All, ◌≡◌, ◌+◌, ◌-◌, ◌<◌, ◌≤◌, ◌++◌, ◌∷◌, [], ℕ, true, List, Vec, Global, Some, length, map, min, set, get_or, sym, ap}
use Rattle.std.proofs.Common.{◌∙◌, arith, subst}
use Rattle.std.specs.List.{sum_by}
use Rattle.std.specs.Vec.{vec_capacity}
use Rattle.std.proofs.lemmas.List.{get_or-set_same, length-map, length-set, map-set}
use Rattle.std.proofs.lemmas.List.Elements.{All-set}
use Rattle.std.proofs.lemmas.List.Sums.{sum_by-set}
use Rattle.back_reduce.specs.declared.problem.Problem.{Problem}
use Rattle.pivot_core.specs.declared.machine.Core.TheInside.{Inside}
use Rattle.pivot_core.specs.declared.view.View.{View}
use Rattle.pivot_core.specs.declared.sight.Sight.{Sight}
use Rattle.pivot_core.specs.declared.event.Event.{Event}
use Rattle.pivot_core.specs.declared.event.Reply.{Reply}
use Rattle.pivot_core.specs.Views.{fresh, sight_of}
use Rattle.pivot_core.specs.Steps.{Stepped, is_next, met, spot_of}
use Rattle.pivot_core.specs.Runs.{State, after_event, opening, state_after, step_at, view_at, word_at}
use Rattle.pivot_core.specs.Phases.{is_ended}
use Rattle.pivot_core.specs.Laws.{IsSetting}
use Rattle.pivot_core.specs.CoreFields.{IsRun}
use Rattle.pivot_core.specs.Cores.{IsMade, met_at, state_of}
use Rattle.pivot_core.proofs.Ended.{at_most_all, none_ended, one_ended}
use Rattle.pivot_core.proofs.EventsMade.{makes, makes_state}
use Rattle.pivot_core.proofs.RunLaws.{after_events-append}
use Rattle.pivot_core.proofs.CoreTurns.{IsTurn, goes_on, own, own_room}

module _ {core : Inside} {e : Event} {v : View} (turn : IsTurn core e v) where
  abbrev problem : Problem
  problem = core.problem

  abbrev words : List ℕ
  words = core.words.items

  abbrev views : List View
  views = core.views.items

  abbrev s : State
  s = state_of words views

  there : e.seat < length views
  there = turn.there

  is_own : view_at problem s e.seat ≡ sight_of v
  is_own = own turn

  -- as many views go on as before, or one less where the view after the step has ended
  pub count_after : (w found : View) (k : ℕ) → found ≡ get_or (set views e.seat w) e.seat found → k ≡ is_ended found.phase
      → (k ≤ core.going) × (core.going - k + sum_by one_ended (map sight_of (set views e.seat w)) ≡ length (set views e.seat w))
  count_after w found k there_is counts =
      let seats : e.seat < length (map sight_of views) = omega (arith, there, length-map views sight_of) in
      let moved : sum_by one_ended (map sight_of (set views e.seat w)) ≡ sum_by one_ended (set (map sight_of views) e.seat (sight_of w)) =
      ap (sum_by one_ended) (map-set sight_of views e.seat w) in
      let sums = sum_by-set one_ended (map sight_of views) e.seat (sight_of w) (fresh problem.m e.seat) seats in
      let before : one_ended (view_at problem s e.seat) ≡ 0 = ap one_ended is_own ∙ none_ended v.phase (goes_on turn) in
      let most = at_most_all (map sight_of (set views e.seat w)) in
      let size : length (map sight_of (set views e.seat w)) ≡ length views = length-map (set views e.seat w) sight_of ∙ length-set views e.seat w in
      let now : k ≡ is_ended w.phase = counts ∙ ap (λ (z : View). is_ended z.phase) (there_is ∙ get_or-set_same views e.seat w found there) in
      let left : k ≤ core.going = omega (arith, now, turn.run.ended, moved, sums, before, most, size) in
      (left, omega (arith, now, turn.run.ended, moved, sums, before, left, length-set views e.seat w))

  module _ {after : List ℕ} (w : View) {r : Reply} (made : IsMade problem words (sight_of v) after (sight_of w) r) where
    abbrev t : Stepped
    t = record { sight = sight_of w; word = made.word; reply = r }

    own_gives : met problem (view_at problem s e.seat) (word_at problem s (spot_of (view_at problem s e.seat).phase)) ≡ Some t
    own_gives = subst (λ (z : Sight). met problem z (word_at problem s (spot_of z.phase)) ≡ Some t) (sym is_own) made.gives

    own_next : is_next e.kind (view_at problem s e.seat).phase ≡ true
    own_next = ap (λ (z : Sight). is_next e.kind z.phase) is_own ∙ turn.next

    seated : e.seat < length s.views
    seated = omega (arith, there, length-map views sight_of)

    -- the step of the event's seat in this state is the one that was made
    pub step_made : step_at problem s e ≡ Some t
    step_made = makes problem s e t seated own_next own_gives

    -- the words after it and the views with the new one are the state after the event
    pub state_made : state_of after (set views e.seat w) ≡ after_event problem s e
    state_made =
        let at : set words (met_at problem v.phase) made.word ≡ set words (met_at problem (view_at problem s e.seat).phase) made.word =
        ap (λ (z : Sight). set words (met_at problem z.phase) made.word) (sym is_own) in
        let moved : state_of after (set views e.seat w) ≡ record {
          words = set words (met_at problem (view_at problem s e.seat).phase) made.word;
          views = set (map sight_of views) e.seat (sight_of w);
        } =
        λ i. record { words = (made.leaves ∙ at) i; views = map-set sight_of views e.seat w i } in
        moved ∙ sym (makes_state problem s e t seated own_next own_gives)

    -- and so a run goes on
    pub run_made : (kept : Vec ℕ Global) (seen : Vec View Global) (found : View) (k : ℕ) → kept.items ≡ after → seen.items ≡ set views e.seat w
        → found ≡ get_or (set views e.seat w) e.seat found → k ≡ is_ended found.phase → vec_capacity v.calls ≤ vec_capacity w.calls
        → IsRun (record core { words = kept; views = seen; going = core.going - k })
    run_made kept seen found k kept_is seen_is there_is counts wide =
        let size : length seen.items ≡ length views = ap length seen_is ∙ length-set views e.seat w in
        let same : state_of kept.items seen.items ≡ state_of after (set views e.seat w) = λ i. state_of (kept_is i) (seen_is i) in
        record {
          setting = subst (IsSetting problem) (sym size) turn.run.setting;
          same = turn.run.same;
          events = turn.run.events ++ e ∷ [];
          reached = same ∙ state_made ∙ ap (λ (z : State). after_event problem z e) turn.run.reached
              ∙ sym (after_events-append problem (opening problem (length views)) turn.run.events (e ∷ []))
              ∙ ap (λ (n : ℕ). state_after problem n (turn.run.events ++ e ∷ [])) (sym size);
          ended = subst (λ (zs : List View). core.going - k + sum_by one_ended (map sight_of zs) ≡ length zs) (sym seen_is)
              (count_after w found k there_is counts).1;
          room = subst (All (λ (z : View). min problem.n problem.m ≤ vec_capacity z.calls)) (sym seen_is)
              (All-set (λ (z : View). min problem.n problem.m ≤ vec_capacity z.calls) views e.seat w
              (omega (arith, own_room turn, wide)) turn.run.room);
          no_logs = turn.run.no_logs;
          room_for_logs = omega (arith, turn.run.room_for_logs, size);
        }
