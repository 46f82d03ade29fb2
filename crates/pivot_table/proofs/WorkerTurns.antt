-- A worker at its next step, and what the step asks of the table.
use Rattle.std.proofs.Common.{◌≡◌, ◌≢◌, ◌==◌, ◌%◌, set, ℕ, ◌+◌, ◌-◌, ◌<◌, ◌^◌, inl, length, true, refl, sym, ap, ◌∙◌, arith, subst}
use prog.Atomic.{either}
use mathlib.Core.Option.{none}
use Rattle.std.specs.Prelude.{slice_index}
use Rattle.atomic_table.specs.Table.{Allows, Step, step}
use Rattle.back_reduce.specs.declared.problem.Problem.{Problem}
use Rattle.pivot_core.specs.declared.view.Phase.{Phase}
use Rattle.pivot_core.specs.declared.view.Phase.TheVariants as phase
use Rattle.pivot_core.specs.Views.{sight_of}
use Rattle.pivot_core.specs.declared.event.Kind.{Kind}
use Rattle.pivot_core.specs.Steps.{is_next, spot_of}
use Rattle.pivot_core.specs.Runs.{State, state_after, word_at}
use Rattle.pivot_core.specs.Phases.{IsPhase, IsSight}
use Rattle.pivot_core.specs.Claimed.{ClaimedPivots}
use Rattle.pivot_core.specs.Meets.{IsMetWord, LeavesWord, MayMeet}
use Rattle.pivot_core.proofs.Kept.{claimed_pivots}
use Rattle.pivot_core.proofs.Table.{meets_spot}
use Rattle.pivot_table.specs.declared.share.Hand.{Hand}
use Rattle.pivot_table.specs.declared.worker.Worker.TheInside as worker
use Rattle.pivot_table.specs.declared.race.Race.TheInside as race
use Rattle.pivot_table.specs.declared.share.Setting.{Setting}
use Rattle.pivot_table.specs.Cells.{cell_of, pair_at}
use Rattle.pivot_table.specs.Law.{IsKept, met_by, put_by}
use Rattle.pivot_table.specs.WorkerFields.{IsWorker, own_hand, standing_of}
use Rattle.pivot_table.specs.RaceFields.{IsRace}
use Rattle.pivot_table.specs.Workers.{Arena, IsOf, Standing, arena_of}
use Rattle.pivot_table.proofs.HandSteps as steps
use Rattle.pivot_table.proofs.CellSteps.{cell_within}
use Rattle.pivot_table.proofs.Turns.{IsLoad}
use Rattle.pivot_table.proofs.Allowed.{allows_claim, allows_draw, allows_load, allows_put}

-- a worker of a race
pub record IsTurn (race : race.Inside) (w : worker.Inside) : Type 0 where
  -- the race's table has the rule of its setting, and there is room for its cells and logs
  pub kept : IsRace race
  -- the worker's seat has its view alone, which stood in a run
  pub own : IsWorker w
  -- the worker's table is that of the race
  pub table : w.seat.table_id ≡ race.table.shared.table_id
  -- the worker's problem is that of the race
  pub problem_is : w.seat.me.0.problem ≡ race.setting.problem
  -- the worker's crew is that of the race
  pub crew_is : w.seat.me.0.crew ≡ race.setting.crew

-- a worker that belongs to the race is one
pub turn_by : {race : race.Inside} {w : worker.Inside} {a : Arena} {b : Standing} → IsRace race → IsWorker w
    → arena_of race.table.shared.table_id race.setting ≡ a → standing_of w ≡ b → IsOf a b → IsTurn race w
turn_by kept own a_is b_is of = record {
  kept = kept;
  own = own;
  table = ap (λ (z : Standing). z.table) b_is ∙ of.table ∙ sym (ap (λ (z : Arena). z.table) a_is);
  problem_is = ap (λ (z : Standing). z.problem) b_is ∙ of.problem ∙ sym (ap (λ (z : Arena). z.problem) a_is);
  crew_is = ap (λ (z : Standing). z.crew) b_is ∙ of.crew ∙ sym (ap (λ (z : Arena). z.crew) a_is);
}

-- the plays look at no step of the table
abbrev pub still : Step ℕ
still = step 0 0 0 0 none

module _ {race : race.Inside} {w : worker.Inside} (turn : IsTurn race w) where
  abbrev p : Problem
  p = w.seat.me.0.problem

  abbrev c : ℕ
  c = w.seat.me.0.crew

  abbrev x : Hand
  x = own_hand w

  own : IsWorker w
  own = turn.own

  abbrev s : State
  s = state_after p c own.events

  rule : ClaimedPivots p c s
  rule = claimed_pivots p c own.place.setting own.events

  own_sight : IsSight p.m p.n (sight_of w.view)
  own_sight = subst (IsSight p.m p.n) (sym own.stands.sight) (rule.ranges.views x.sight.seat own.stands.seat)

  -- what comes next for the worker that a contract sees
  pub next_by : (k : Kind) {b : Standing} → standing_of w ≡ b → is_next k b.sight.phase ≡ true → is_next k w.view.phase ≡ true
  next_by k is next = ap (λ (z : Standing). is_next k z.sight.phase) is ∙ next

  -- the numbers of the phase are in range
  pub phase_within : IsPhase race.setting.problem.m race.setting.problem.n w.view.phase
  phase_within = subst (λ (q : Problem). IsPhase q.m q.n w.view.phase) turn.problem_is own_sight.numbers

  may_next : w.view.phase ≢ phase.Ended → MayMeet p (sight_of w.view) (word_at p s (spot_of w.view.phase))
  may_next next = steps.may own.place own.events own.stands next

  -- there is room to count the step
  pub steps_small : w.view.phase ≢ phase.Ended → w.view.steps < 2 ^ 64 - 1
  steps_small next = (may_next next).steps

  -- where a read stands in the words seen
  pub read_within : {row column holder at : ℕ} → w.view.phase ≡ phase.Reading row column holder at → at < length w.view.seen.items
  read_within {row} {column} {holder} {at} is =
      let numbers : IsPhase p.m p.n (phase.Reading row column holder at) = subst (IsPhase p.m p.n) is own_sight.numbers in
      omega (arith, numbers.3, own_sight.seen)

  -- where the word 0 may stand, the view may meet it before a put or a claim
  may_zero : (f : Phase) → f ≢ phase.Ended → f ≢ phase.Fresh → IsMetWord p f 0 → w.view.phase ≡ f → MayMeet race.setting.problem (sight_of w.view) 0
  may_zero f runs drawn word is =
      let h : MayMeet p (sight_of w.view) (word_at p s (spot_of w.view.phase)) = may_next (λ e. runs (sym is ∙ e)) in
      subst (λ (q : Problem). MayMeet q (sight_of w.view) 0) turn.problem_is
      (record {
        next = h.next;
        sight = h.sight;
        current = h.current;
        seen = h.seen;
        word = subst (λ (f : Phase). IsMetWord p f 0) (sym is) word;
        steps = h.steps;
        clock = h.clock;
        drawn = λ fresh. absurd (drawn (sym is ∙ fresh));
      })

  -- before a claim, the word may be 0
  pub may_claim : {row column : ℕ} → w.view.phase ≡ phase.Claiming row column → MayMeet race.setting.problem (sight_of w.view) 0
  may_claim {row} {column} = may_zero (phase.Claiming row column) (λ e. cc e) (λ e. cc e) (record { claim = inl refl; stamp = omega arith })

  -- the cell of the next step is on the table
  pub cell_there : (i : ℕ) → i ≡ cell_of race.setting.problem.m (spot_of w.view.phase) → i < race.table.shared.table_id.words
  cell_there i is =
      let within = cell_within race.setting.problem.m race.setting.problem.n (spot_of w.view.phase)
      (meets_spot race.setting.problem.m race.setting.problem.n w.view.phase phase_within) in
      omega (arith, is, within, turn.kept.cells)

  abbrev slots : ℕ
  slots = race.table.shared.table_id.slots

  key_problem : race.setting.problem ≡ race.table.shared.key.problem
  key_problem = sym (ap (λ (k : Setting). k.problem) turn.kept.key)

  -- what the steps on the table ask
  pub claim_asks : (i new row column : ℕ) → i ≡ cell_of race.setting.problem.m (spot_of w.view.phase) → w.view.phase ≡ phase.Claiming row column
      → LeavesWord race.setting.problem (sight_of w.view) 0 new
      → (w.seat.table_id ≡ race.table.shared.table_id) × (i < race.table.shared.table_id.words)
      × Allows (IsKept race.table.shared.key) slots w.seat.id w.seat.me i (λ n. either (n == 0) new n) (met_by still w.seat.me)
  claim_asks i new row column is claiming leaves = (
    turn.table,
    cell_there i is,
    allows_claim race.table.shared.key slots w.seat.id own.seat i still new row column
        (is ∙ ap (λ (f : Phase). cell_of race.setting.problem.m (spot_of f)) claiming) claiming
        (subst (λ (q : Problem). LeavesWord q (sight_of w.view) 0 new) key_problem leaves),
  )

  -- what the load of a look and of a read ask
  pub load_asks : (i : ℕ) → i ≡ cell_of race.setting.problem.m (spot_of w.view.phase) → IsLoad w.view.phase
      → (w.seat.table_id ≡ race.table.shared.table_id) × (i < race.table.shared.table_id.words)
      × Allows (IsKept race.table.shared.key) slots w.seat.id w.seat.me i (λ n. n) (met_by still w.seat.me)
  load_asks i is load = (
    turn.table,
    cell_there i is,
    allows_load race.table.shared.key slots w.seat.id own.seat i still
        (is ∙ ap (λ (q : Problem). cell_of q.m (spot_of w.view.phase)) key_problem) load,
  )

  -- what the sum of a draw asks
  pub draw_asks : (i : ℕ) → i ≡ 0 → w.view.phase ≡ phase.Fresh
      → (w.seat.table_id ≡ race.table.shared.table_id) × (i < race.table.shared.table_id.words)
      × Allows (IsKept race.table.shared.key) slots w.seat.id w.seat.me i (λ n. (n + 1) % 2 ^ 64) (met_by still w.seat.me)
  draw_asks i is fresh = (
    turn.table,
    cell_there i (is ∙ ap (λ (f : Phase). cell_of race.setting.problem.m (spot_of f)) (sym fresh)),
    allows_draw race.table.shared.key slots w.seat.id own.seat i still is fresh,
  )

  -- what the store of a put asks
  pub put_asks : (i new row column to : ℕ) → i ≡ cell_of race.setting.problem.m (spot_of w.view.phase) → w.view.phase ≡ phase.Putting row column to
      → new ≡ pair_at (set w.published.items to (slice_index w.view.current.items to)) to
      → (w.seat.table_id ≡ race.table.shared.table_id) × (i < race.table.shared.table_id.words)
      × Allows (IsKept race.table.shared.key) slots w.seat.id w.seat.me i (λ n. new) (λ n. put_by still w.seat.me new)
  put_asks i new row column to is putting pair = (
    turn.table,
    cell_there i is,
    allows_put race.table.shared.key slots w.seat.id own.seat i still new row column to
        (is ∙ ap (λ (q : Problem). cell_of q.m (spot_of w.view.phase)) key_problem
        ∙ ap (λ (f : Phase). cell_of race.table.shared.key.problem.m (spot_of f)) putting) putting pair,
  )

  -- where a put stands in the lists
  pub put_within : {row column at : ℕ} → w.view.phase ≡ phase.Putting row column at → (at < length w.view.current.items) × (at < length w.published.items)
  put_within {row} {column} {at} is =
      let numbers : IsPhase p.m p.n (phase.Putting row column at) = subst (IsPhase p.m p.n) is own_sight.numbers in
      (omega (arith, numbers.2, own_sight.current), omega (arith, numbers.2, own.stands.size))

  -- whatever word a put has met, it is as if it had met 0
  pub may_put : {row column at : ℕ} → w.view.phase ≡ phase.Putting row column at → MayMeet race.setting.problem (sight_of w.view) 0
  may_put {row} {column} {at} = may_zero (phase.Putting row column at) (λ e. cc e) (λ e. cc e) tt
