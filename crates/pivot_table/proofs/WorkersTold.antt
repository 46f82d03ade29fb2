-- What a step tells a worker, and the worker after it.
use Rattle.std.proofs.Common.{◌≡◌, ◌≢◌, true, ℕ, ◌+◌, ◌<◌, ◌≤◌, List, Vec, Global, [], ◌∷◌, ◌++◌, Some, length, min, get_or, refl, sym, ap, ◌∙◌, arith, subst}
use Rattle.std.proofs.lemmas.Option.{same_Some}
use Rattle.std.specs.Vec.{vec_capacity}
use Rattle.atomic_table.specs.Table.{Me}
use Rattle.atomic_table.specs.declared.shared.Seat.{Seat}
use Rattle.back_reduce.specs.declared.problem.Problem.{Problem}
use Rattle.pivot_core.specs.declared.view.Phase.{Phase}
use Rattle.pivot_core.specs.declared.view.Phase.TheVariants as phase
use Rattle.pivot_core.specs.declared.view.View.{View}
use Rattle.pivot_core.specs.declared.sight.Sight.{Sight}
use Rattle.pivot_core.specs.declared.event.Event.{Event}
use Rattle.pivot_core.specs.declared.event.Kind.TheVariants as kind
use Rattle.pivot_core.specs.declared.event.Reply.{Reply}
use Rattle.pivot_core.specs.Views.{sight_of}
use Rattle.pivot_core.specs.Steps.{IsMet, Stepped, by_phase, is_next, met, spot_of}
use Rattle.pivot_core.specs.Runs.{State, state_after, view_at, word_at}
use Rattle.pivot_core.specs.Laws.{IsSetting}
use Rattle.pivot_core.specs.Meets.{IsClaiming, MayMeet}
use Rattle.pivot_core.proofs.CallRoom.{room_for_call}
use Rattle.pivot_core.proofs.Kept.{claimed_pivots}
use Rattle.pivot_core.proofs.Moves.{seat_and_step}
use Rattle.pivot_core.proofs.Table.{move_of}
use Rattle.pivot_table.specs.declared.share.Hand.{Hand}
use Rattle.pivot_table.specs.declared.share.Share.{Share}
use Rattle.pivot_table.specs.declared.worker.Worker.TheInside as worker
use Rattle.pivot_table.specs.declared.race.Race.TheInside as race
use Rattle.pivot_table.specs.Cells.{half_at, part_of}
use Rattle.pivot_table.specs.Law.{IsHandIn, IsPlace, IsStepped, met_by, put_by}
use Rattle.pivot_table.specs.Shares.{hand, published_after, published_by, share}
use Rattle.pivot_table.specs.WorkerFields.{IsWorker, own_hand, standing_of}
use Rattle.pivot_table.specs.Workers.{IsOf, IsTaken, arena_of}
use Rattle.pivot_table.proofs.HandSteps as steps
use Rattle.pivot_table.proofs.Turns.{IsLoad, one}
use Rattle.pivot_table.proofs.WorkerTurns.{IsTurn, still}

-- what a step tells the worker
pub record IsTold (w : worker.Inside) (old : ℕ) (me : Me ℕ Share) : Type 0 where
  pub after : Hand
  pub stepped : IsStepped w.seat.me.0.problem w.seat.me.0.crew (own_hand w) old after
  pub is : me ≡ (one w.seat.me.0.problem w.seat.me.0.crew after, [])

module _ {race : race.Inside} {w : worker.Inside} (turn : IsTurn race w) where
  abbrev p : Problem
  p = w.seat.me.0.problem

  abbrev c : ℕ
  c = w.seat.me.0.crew

  abbrev x : Hand
  x = own_hand w

  own : IsWorker w
  own = turn.own

  same_hand : (z : Hand) → w.seat.me.0 ≡ one p c z → z ≡ x
  same_hand z is = ap (λ (v : Share). get_or v.hands 0 x) (sym is ∙ ap (λ (m : Me ℕ Share). m.0) own.seat)

  -- a step that is told the cell
  pub told : (cell : ℕ) (me : Me ℕ Share) → met_by still w.seat.me cell me → IsTold w (part_of (spot_of w.view.phase) cell) me
  told cell me h =
      let same : h.0 ≡ x = same_hand h.0 h.2 in
      record { after = h.1; stepped = subst (λ (z : Hand). IsStepped p c z (part_of (spot_of z.sight.phase) cell) h.1) same h.4; is = h.3 }

  -- a store is told of, whatever word stood there
  pub record IsStored (me : Me ℕ Share) : Type 0 where
    pub old : ℕ
    pub so : IsTold w old me

  -- by what the table tells of it
  pub stored : (cell : ℕ) (me : Me ℕ Share) → put_by still w.seat.me cell me → IsStored me
  stored cell me h =
      let same : h.0 ≡ x = same_hand h.0 h.2 in
      record { old = h.4.0; so = record { after = h.1; stepped = subst (λ (z : Hand). IsStepped p c z h.4.0 h.1) same h.4.1; is = h.3 } }

  -- a load publishes nothing
  pub load_publishes : IsLoad w.view.phase → w.published.items ≡ published_after p.m x
  load_publishes load = sym (by_load w.view.phase load)
    where
      by_load : (f : Phase) → IsLoad f → published_by p.m (sight_of w.view) w.published.items f ≡ w.published.items
      by_load phase.Fresh load = absurd load
      by_load (phase.Looking row column) load = refl
      by_load (phase.Putting row column at) load = absurd load
      by_load (phase.Claiming row column) load = absurd load
      by_load (phase.Reading row column holder at) load = refl
      by_load phase.Ended load = absurd load

  -- nor does a claim
  pub claim_publishes : {row column : ℕ} → w.view.phase ≡ phase.Claiming row column → w.published.items ≡ published_after p.m x
  claim_publishes is = sym (ap (published_by p.m (sight_of w.view) w.published.items) is)

  -- a look is told its cell whole
  pub told_look : (cell : ℕ) (me : Me ℕ Share) → is_next kind.Look w.view.phase ≡ true → met_by still w.seat.me cell me → IsTold w cell me
  told_look cell me next h = subst (λ (n : ℕ). IsTold w n me) (whole w.view.phase next) (told cell me h)
    where
      whole : (f : Phase) → is_next kind.Look f ≡ true → part_of (spot_of f) cell ≡ cell
      whole phase.Fresh e = absurd (cc e)
      whole (phase.Looking row column) e = refl
      whole (phase.Putting row column at) e = absurd (cc e)
      whole (phase.Claiming row column) e = absurd (cc e)
      whole (phase.Reading row column holder at) e = absurd (cc e)
      whole phase.Ended e = absurd (cc e)

  -- and so are a draw and a claim
  pub told_draw : (cell : ℕ) (me : Me ℕ Share) → w.view.phase ≡ phase.Fresh → met_by still w.seat.me cell me → IsTold w cell me
  told_draw cell me is h = subst (λ (n : ℕ). IsTold w n me) (ap (λ (f : Phase). part_of (spot_of f) cell) is) (told cell me h)

  -- the cell of a claim is its word
  pub told_claim : (cell : ℕ) (me : Me ℕ Share) {row column : ℕ} → w.view.phase ≡ phase.Claiming row column → met_by still w.seat.me cell me → IsTold w cell me
  told_claim cell me is h = subst (λ (n : ℕ). IsTold w n me) (ap (λ (f : Phase). part_of (spot_of f) cell) is) (told cell me h)

  -- a read takes its half
  pub told_read : (cell : ℕ) (me : Me ℕ Share) {row column holder at : ℕ} → w.view.phase ≡ phase.Reading row column holder at → met_by still w.seat.me cell me
      → IsTold w (half_at at cell) me
  told_read cell me is h = subst (λ (n : ℕ). IsTold w n me) (ap (λ (f : Phase). part_of (spot_of f) cell) is) (told cell me h)

  -- which is its word
  pub told_half : (cell word : ℕ) (me : Me ℕ Share) {row column holder at : ℕ} → w.view.phase ≡ phase.Reading row column holder at → word ≡ half_at at cell
      → met_by still w.seat.me cell me → IsTold w word me
  told_half cell word me is half h =
      subst (λ (n : ℕ). IsTold w n me) (sym half) (told_read cell me is h)

  -- the step of a put does not look at the old word
  pub made_put : {row column at : ℕ} (old : ℕ) (after : Sight) (r : Reply) → w.view.phase ≡ phase.Putting row column at
      → IsMet race.setting.problem (sight_of w.view) 0 after r → IsMet race.setting.problem (sight_of w.view) old after r
  made_put old after r is m = record {
    word = m.word;
    gives = (let v : Sight = record (sight_of w.view) { steps = w.view.steps + 1 } in
        ap (λ (f : Phase). by_phase race.setting.problem v f old) is ∙ sym (ap (λ (f : Phase). by_phase race.setting.problem v f 0) is) ∙ m.gives);
  }

  module _ {old : ℕ} {me : Me ℕ Share} (t : IsTold w old me) where
    -- the view may meet the word that it is told
    pub may_met : w.view.phase ≢ phase.Ended → MayMeet race.setting.problem (sight_of w.view) old
    may_met next = subst (λ (q : Problem). MayMeet q (sight_of w.view) old) turn.problem_is
        (subst (λ (n : ℕ). MayMeet p (sight_of w.view) n) (sym t.stepped.found) (steps.may own.place t.stepped.events t.stepped.stood next))

    -- and has room for the call of a claim
    pub room_met : IsClaiming w.view.phase → length w.view.calls.items < vec_capacity w.view.calls
    room_met claims =
        let u : State = state_after p c t.stepped.events in
        let few : length w.view.calls.items < min p.n p.m = subst (λ (z : Sight). IsClaiming z.phase → length z.calls < min p.n p.m) (sym t.stepped.stood.sight)
        (room_for_call p c own.place.setting u (claimed_pivots p c own.place.setting t.stepped.events) x.sight.seat t.stepped.stood.seat) claims in
        omega (arith, few, own.room)

    -- the worker after the step
    module _ (after : View) {r : Reply} (made : IsMet race.setting.problem (sight_of w.view) old (sight_of after) r)
        (wide : vec_capacity w.view.calls ≤ vec_capacity after.calls)
        (published : Vec ℕ Global) (row : published.items ≡ published_after p.m x) (seat : Seat ℕ Share) (is : seat.me ≡ me) where
      abbrev later : List Event
      later = t.stepped.events ++ record { seat = x.sight.seat; kind = t.stepped.kind } ∷ []

      -- the worker after the step
      abbrev pub v : worker.Inside
      v = record { view = after; published = published; seat = seat }

      after_is : t.after ≡ own_hand v
      after_is =
          let gives : met p (sight_of w.view) old ≡ Some (record { sight = sight_of after; word = made.word; reply = r }) =
          subst (λ (q : Problem). met q (sight_of w.view) old ≡ Some (record { sight = sight_of after; word = made.word; reply = r }))
          (sym turn.problem_is) made.gives in
          let same = ap (λ (z : Stepped). z.sight) (same_Some t.stepped.stepped (record { sight = sight_of after; word = made.word; reply = r })
          (sym t.stepped.gives ∙ gives)) in
          t.stepped.after ∙ λ i. hand (same i) (sym row i)

      me_is : seat.me ≡ (one p c (own_hand v), [])
      me_is = is ∙ t.is ∙ ap (λ (z : Hand). (one p c z, [])) after_is

      -- it keeps the problem
      pub problem_kept : seat.me.0.problem ≡ p
      problem_kept = ap (λ (m : Me ℕ Share). m.0.problem) me_is

      -- the crew
      pub crew_kept : seat.me.0.crew ≡ c
      crew_kept = ap (λ (m : Me ℕ Share). m.0.crew) me_is

      -- and the seat
      pub seat_kept : after.seat ≡ w.view.seat
      seat_kept =
          let u : Stepped = record { sight = sight_of after; word = made.word; reply = r } in
          (seat_and_step (move_of race.setting.problem (sight_of w.view) old u made.gives)).0

      -- what its fields keep holds again
      pub worker_after : IsWorker v
      worker_after =
          let q : Problem = seat.me.0.problem in
          let d : ℕ = seat.me.0.crew in
          subst (λ (z : Share). (z ≡ seat.me.0) → IsWorker v) (ap (λ (m : Me ℕ Share). m.0) (sym me_is)) (λ e. record {
            place = subst (λ (z : Share). IsPlace z.problem z.crew) e own.place;
            seat = me_is ∙ ap (λ (z : Share). (share z.problem z.crew (own_hand v ∷ []), [])) e;
            events = later;
            stands = subst (λ (z : Share). IsHandIn z.problem z.crew (state_after z.problem z.crew later) (own_hand v)) e
                (subst (λ (z : Hand). IsHandIn p c (state_after p c later) z) after_is t.stepped.stands);
            room = subst (λ (z : Share). min z.problem.n z.problem.m ≤ vec_capacity after.calls) e (omega (arith, own.room, wide));
          }) refl

      -- and the step was one event of a run
      pub taken_after : IsTaken (arena_of race.table.shared.table_id race.setting) (standing_of w) (standing_of v) r
      taken_after =
          let u : Sight = sight_of after in
          let moved : (P : Problem → ℕ → Type 0) → P p c → P race.setting.problem race.setting.crew =
          λ P h. subst (λ (q : Problem). P q race.setting.crew) turn.problem_is (subst (λ (d : ℕ). P p d) turn.crew_is h) in
          record {
            setting = moved (λ q d. IsSetting q d) own.place.setting;
            seat = moved (λ q d. x.sight.seat < d) own.stands.seat;
            events = t.stepped.events;
            stood = moved (λ q d. x.sight ≡ view_at q (state_after q d t.stepped.events) x.sight.seat) t.stepped.stood.sight;
            old = old;
            found = moved (λ q d. old ≡ word_at q (state_after q d t.stepped.events) (spot_of x.sight.phase)) t.stepped.found;
            met = made;
            kind = t.stepped.kind;
            stands = moved (λ q d. u ≡ view_at q (state_after q d later) u.seat)
                (subst (λ (z : Hand). z.sight ≡ view_at p (state_after p c later) z.sight.seat) after_is t.stepped.stands.sight);
          }

      -- it belongs to the race as before
      pub of_after : seat.table_id ≡ w.seat.table_id → IsOf (arena_of race.table.shared.table_id race.setting) (standing_of v)
      of_after same = record { table = same ∙ turn.table; problem = problem_kept ∙ turn.problem_is; crew = crew_kept ∙ turn.crew_is }
