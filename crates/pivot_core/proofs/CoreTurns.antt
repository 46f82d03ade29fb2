-- The machine where the next step of a seat comes.
use Rattle.std.proofs.Common.{◌≡◌, ◌≢◌, ◌-◌, ◌<◌, ◌≤◌, ◌^◌, ℕ, true, List, length, min, get_or, sym, ap, ◌∙◌, arith, subst}
use Rattle.std.specs.Vec.{vec_capacity}
use Rattle.std.proofs.lemmas.List.{get_or-map, get_or_read}
use Rattle.back_reduce.specs.declared.problem.Problem.{Problem}
use Rattle.pivot_core.specs.declared.machine.Core.TheInside.{Inside}
use Rattle.pivot_core.specs.declared.view.Phase.TheVariants as phase
use Rattle.pivot_core.specs.declared.view.View.{View}
use Rattle.pivot_core.specs.declared.sight.Sight.{Sight}
use Rattle.pivot_core.specs.declared.event.Event.{Event}
use Rattle.pivot_core.specs.declared.event.Kind.{Kind}
use Rattle.pivot_core.specs.declared.event.Kind.TheVariants as kind
use Rattle.pivot_core.specs.Views.{fresh, sight_of}
use Rattle.pivot_core.specs.Steps.{is_next, spot_of}
use Rattle.pivot_core.specs.Runs.{State, view_at, word_at}
use Rattle.pivot_core.specs.Phases.{IsPhase}
use Rattle.pivot_core.specs.Claimed.{ClaimedPivots}
use Rattle.pivot_core.specs.Meets.{IsClaiming, MayMeet}
use Rattle.pivot_core.specs.CoreFields.{IsRun}
use Rattle.pivot_core.specs.Cores.{MayStep, met_at, met_in, state_of}
use Rattle.pivot_core.proofs.CallRoom.{room_for_call}
use Rattle.pivot_core.proofs.Kept.{claimed_pivots}
use Rattle.pivot_core.proofs.MayMeet.{counter_small, may_meet}
use Rattle.pivot_core.proofs.Spots.{spot_within}
use Rattle.pivot_core.proofs.Table.{meets_spot}

-- a view that has ended has no next kind
none_after_end : (k : Kind) → is_next k phase.Ended ≡ true → ⊥
none_after_end kind.Draw e = cc e
none_after_end kind.Look e = cc e
none_after_end kind.Put e = cc e
none_after_end kind.Claim e = cc e
none_after_end kind.Read e = cc e

-- the event's kind is the next of the view of its seat
pub record IsTurn (core : Inside) (e : Event) (v : View) : Type 0 where
  -- the machine is in a state of a run
  pub run : IsRun core
  -- the event's seat is one of the crew
  pub there : e.seat < length core.views.items
  -- the view is the one of this seat
  pub is : v ≡ get_or core.views.items e.seat v
  -- the event's kind is the next of its phase
  pub next : is_next e.kind v.phase ≡ true

-- as the code sees it, which has looked twice at the view
pub turn_by : {core : Inside} (e : Event) {v first : View} → IsRun core → e.seat < length core.views.items →
    v ≡ get_or core.views.items e.seat v → first ≡ get_or core.views.items e.seat first → true ≡ is_next e.kind first.phase →
    IsTurn core e v
turn_by {core} e {v} {first} run there is was next = record {
  run = run;
  there = there;
  is = is;
  next = ap (λ (z : View). is_next e.kind z.phase) (is ∙ sym (get_or_read core.views.items e.seat first there was v)) ∙ sym next;
}

module _ {core : Inside} {e : Event} {v : View} (turn : IsTurn core e v) where
  abbrev pub problem : Problem
  problem = core.problem

  abbrev pub words : List ℕ
  words = core.words.items

  abbrev pub views : List View
  views = core.views.items

  abbrev pub s : State
  s = state_of words views

  -- the seat of an event whose turn it is is one of the crew
  pub there : e.seat < length views
  there = turn.there

  rule : ClaimedPivots problem (length views) s
  rule = subst (ClaimedPivots problem (length views)) (sym turn.run.reached) (claimed_pivots problem (length views) turn.run.setting turn.run.events)

  -- the view of the seat in the machine's state is this view without the room of its lists
  pub own : view_at problem s e.seat ≡ sight_of v
  own = get_or-map sight_of views e.seat v (fresh problem.m e.seat) there ∙ ap sight_of (sym turn.is)

  -- the view has not ended
  pub goes_on : v.phase ≢ phase.Ended
  goes_on ended = none_after_end e.kind (ap (is_next e.kind) (sym ended) ∙ turn.next)

  met_within : met_at problem v.phase < length words
  met_within =
      let numbers : IsPhase problem.m problem.n v.phase = subst (λ (z : Sight). IsPhase problem.m problem.n z.phase) own
      (rule.ranges.views e.seat there).numbers in
      omega (arith, rule.ranges.words, spot_within problem.m problem.n (spot_of v.phase) (meets_spot problem.m problem.n v.phase numbers))

  met_may : problem.n < 2 ^ 32 → problem.m < 2 ^ 32 → MayMeet problem (sight_of v) (met_in problem words v.phase)
  met_may rows columns = subst (λ (z : Sight). MayMeet problem z (word_at problem s (spot_of z.phase))) own
      (may_meet problem (length views) turn.run.setting s rule e.seat there rows columns (λ ended. goes_on (ap (λ (z : Sight). z.phase) (sym own) ∙ ended)))

  met_count : problem.n < 2 ^ 32 → v.phase ≡ phase.Fresh → met_in problem words v.phase < 2 ^ 64 - 1
  met_count rows = subst (λ (z : Sight). z.phase ≡ phase.Fresh → word_at problem s (spot_of z.phase) < 2 ^ 64 - 1) own
      (λ f. counter_small problem (length views) turn.run.setting s rule e.seat there f rows)

  -- the view has room for all its calls
  pub own_room : min problem.n problem.m ≤ vec_capacity v.calls
  own_room = subst (λ (z : View). min problem.n problem.m ≤ vec_capacity z.calls) (sym turn.is) (turn.run.room e.seat v there)

  met_room : IsClaiming v.phase → length v.calls.items < vec_capacity v.calls
  met_room claims =
      let few : length v.calls.items < min problem.n problem.m =
      subst (λ (z : Sight). IsClaiming z.phase → length z.calls < min problem.n problem.m) own
      (room_for_call problem (length views) turn.run.setting s rule e.seat there) claims in
      omega (arith, few, own_room)

  -- with fewer than 2^32 rows and columns, the view may make its next step, and has room for the call of a claim
  pub may_step : problem.n < 2 ^ 32 → problem.m < 2 ^ 32 → MayStep problem words v
  may_step rows columns = record { within = met_within; may = met_may rows columns; count = met_count rows; room = met_room }
