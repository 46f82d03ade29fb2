-- The table of the steps gives these moves, and an event makes one or none.
use Rattle.std.proofs.Common.{◌≡◌, ◌⊎◌, inl, inr, ℕ, ◌+◌, ◌<◌, ◌≤◌, ◌==◌, List, Bool, true, false, Option, None, Some, length, ltb, set, refl, arith, subst}
use Rattle.std.proofs.lemmas.Option.{same_Some, none-some}
use Rattle.std.specs.Prelude.{if◌then◌else◌}
use Rattle.std.proofs.lemmas.Bool.{cond_both, eqb-true, eqb-false, ltb-true, ltb-false}
use Rattle.ideal_laws.specs.declared.account.Call.{Call}
use Rattle.back_reduce.specs.declared.problem.Problem.{Problem}
use Rattle.pivot_core.specs.declared.view.Phase.{Phase}
use Rattle.pivot_core.specs.declared.view.Phase.TheVariants as phase
use Rattle.pivot_core.specs.declared.sight.Sight.{Sight}
use Rattle.pivot_core.specs.declared.event.Event.{Event}
use Rattle.pivot_core.specs.Words.{Spot, IsSpot, counter, claim_of, row_word}
use Rattle.pivot_core.specs.Views.{difference, given_row, lead_at, settle}
use Rattle.pivot_core.specs.Steps.{Stepped, by_phase, is_next, met, spot_of, step}
use Rattle.pivot_core.specs.Runs.{State, after_event, step_at, view_at, with_step, word_at}
use Rattle.pivot_core.specs.Phases.{IsPhase}
use Rattle.pivot_core.specs.Rule.{Ranges}
use Rattle.pivot_core.proofs.Changes.{IsChange, changed}
use Rattle.pivot_core.proofs.Moves.{IsLater, IsMove, IsSettling, goes_on, given_up, draws, ends, looks_free, looks_held, puts, wins, loses}
use Rattle.pivot_core.proofs.Moves.{reads_more, reads_last}

settles : (problem : Problem) (v : Sight) (y : List ℕ) (row : ℕ) → IsSettling problem y row (settle problem v y row)
settles problem v y row =
    cond_both (ltb (lead_at y) problem.m) _ _ (IsSettling problem y row)
    (λ on. goes_on (ltb-true (lead_at y) problem.m on) refl refl refl)
    (λ off. given_up (omega (arith, ltb-false (lead_at y) problem.m off)) refl refl refl)

settles_later : (problem : Problem) (v u : Sight) (y : List ℕ) (row k d : ℕ) (all : List Call) → IsLater v u k d all →
    IsLater v (settle problem u y row) k d all
settles_later problem v u y row k d all h =
    cond_both (ltb (lead_at y) problem.m) _ _ (λ (w : Sight). IsLater v w k d all)
    (λ on. record { seat = h.seat; steps = h.steps; clock = h.clock; drawn = h.drawn; calls = h.calls })
    (λ off. record { seat = h.seat; steps = h.steps; clock = h.clock; drawn = h.drawn; calls = h.calls })

module _ (problem : Problem) (v : Sight) (old : ℕ) where
  abbrev Moves : Spot → Stepped → Type 0
  Moves a t = IsMove problem v old t.sight a t.word

  -- a step later, with one more word seen
  abbrev read_one : ℕ → Sight
  read_one at = record v { steps = v.steps + 1; seen = set v.seen at old }

  moves_by : (f : Phase) → v.phase ≡ f → (t : Stepped) → by_phase problem (record v { steps = v.steps + 1 }) f old ≡ Some t → Moves (spot_of f) t
  moves_by phase.Fresh is t e = subst (Moves counter) (same_Some _ t e)
      (cond_both (ltb old problem.n) _ _ (Moves counter)
      (λ on. draws (record {
        was = is;
        some = ltb-true old problem.n on;
        spot = refl;
        word = refl;
        settling = settles problem (record v { steps = v.steps + 1; drawn = v.drawn + 1 }) (given_row problem old) old;
        later = settles_later problem v (record v { steps = v.steps + 1; drawn = v.drawn + 1 }) (given_row problem old) old v.clock
            (v.drawn + 1) v.calls (record { seat = refl; steps = refl; clock = refl; drawn = refl; calls = refl });
      }))
      (λ off. ends (record {
        was = is;
        none = omega (arith, ltb-false old problem.n off);
        spot = refl;
        word = refl;
        now = refl;
        same = record { current = refl; seen = refl };
        later = record { seat = refl; steps = refl; clock = refl; drawn = refl; calls = refl };
      })))
  moves_by (phase.Looking row column) is t e = subst (Moves (claim_of column)) (same_Some _ t e)
      (cond_both (old == 0) _ _ (Moves (claim_of column))
      (λ on. looks_free (record {
        row = row;
        column = column;
        was = is;
        free = eqb-true old 0 on;
        spot = refl;
        word = refl;
        now = refl;
        same = record { current = refl; seen = refl };
        later = record
            { seat = refl; steps = refl; clock = refl; drawn = refl; calls = refl };
      }))
      (λ off. looks_held (record {
        row = row;
        column = column;
        was = is;
        held = eqb-false old 0 off;
        spot = refl;
        word = refl;
        now = refl;
        current = refl;
        seen = refl;
        later = record { seat = refl; steps = refl; clock = refl; drawn = refl; calls = refl };
      })))
  moves_by (phase.Putting row column at) is t e = subst (Moves (row_word row at)) (same_Some _ t e)
      (puts (record {
        row = row;
        column = column;
        at = at;
        was = is;
        spot = refl;
        word = refl;
        now = next (ltb (at + 1) problem.m) refl;
        same = record { current = refl; seen = refl };
        later = record { seat = refl; steps = refl; clock = refl; drawn = refl; calls = refl };
      }))
    where
      next : (b : Bool) → ltb (at + 1) problem.m ≡ b → ((at + 1 < problem.m)
          × ((if b then phase.Putting row column (at + 1) else phase.Claiming row column) ≡ phase.Putting row column (at + 1)))
          ⊎ ((problem.m ≤ at + 1) × ((if b then phase.Putting row column (at + 1) else phase.Claiming row column) ≡ phase.Claiming row column))
      next true on = inl (ltb-true (at + 1) problem.m on, refl)
      next false off = inr (omega (arith, ltb-false (at + 1) problem.m off), refl)
  moves_by (phase.Claiming row column) is t e = subst (Moves (claim_of column)) (same_Some _ t e)
      (cond_both (old == 0) _ _ (Moves (claim_of column))
      (λ on. wins (record {
        row = row;
        column = column;
        was = is;
        free = eqb-true old 0 on;
        spot = refl;
        word = refl;
        now = refl;
        current = refl;
        seen = refl;
        later = record { seat = refl; steps = refl; clock = refl; drawn = refl; calls = refl };
      }))
      (λ off. loses (record {
        row = row;
        column = column;
        was = is;
        held = eqb-false old 0 off;
        spot = refl;
        word = refl;
        now = refl;
        current = refl;
        seen = refl;
        later = record { seat = refl; steps = refl; clock = refl; drawn = refl; calls = refl };
      })))
  moves_by (phase.Reading row column holder at) is t e = subst (Moves (row_word holder at)) (same_Some _ t e)
      (by_more (ltb (at + 1) problem.m) refl)
    where
      by_more : (b : Bool) → ltb (at + 1) problem.m ≡ b → IsMove problem v old
          (if b then record (read_one at) { phase = phase.Reading row column holder (at + 1) } else settle problem (read_one at)
          (difference problem.modulus v.current (set v.seen at old)) row) (row_word holder at) old
      by_more true on = reads_more (record {
        row = row;
        column = column;
        holder = holder;
        at = at;
        was = is;
        more = ltb-true (at + 1) problem.m on;
        spot = refl;
        word = refl;
        now = refl;
        current = refl;
        seen = refl;
        later = record { seat = refl; steps = refl; clock = refl; drawn = refl; calls = refl };
      })
      by_more false off = reads_last (record {
        row = row;
        column = column;
        holder = holder;
        at = at;
        was = is;
        last = omega (arith, ltb-false (at + 1) problem.m off);
        spot = refl;
        word = refl;
        settling = settles problem (read_one at) (difference problem.modulus v.current (set v.seen at old)) row;
        later = settles_later problem v (read_one at) (difference problem.modulus v.current (set v.seen at old)) row v.clock v.drawn v.calls
            (record { seat = refl; steps = refl; clock = refl; drawn = refl; calls = refl });
      })
  moves_by phase.Ended is t e = absurd (none-some t e)

  -- what the next step of a view gives is one of the moves, at the spot of its phase
  pub move_of : (t : Stepped) → met problem v old ≡ Some t → Moves (spot_of v.phase) t
  move_of t e = moves_by v.phase refl t e

-- the next step meets a spot
pub meets_spot : (m n : ℕ) (f : Phase) → IsPhase m n f → IsSpot m n (spot_of f)
meets_spot m n phase.Fresh h = tt
meets_spot m n (phase.Looking row column) h = h.1
meets_spot m n (phase.Putting row column at) h = (h.0, h.2)
meets_spot m n (phase.Claiming row column) h = h.1
meets_spot m n (phase.Reading row column holder at) h = (h.1, h.3)
meets_spot m n phase.Ended h = tt

-- t comes from s by one move of one seat
pub record IsTaken (problem : Problem) (crew : ℕ) (s t : State) : Type 0 where
  pub seat : ℕ
  pub sight : Sight
  pub spot : Spot
  pub word : ℕ
  pub change : IsChange problem crew s t seat sight spot word
  pub move : IsMove problem (view_at problem s seat) (word_at problem s spot) sight spot word

if_some : {A : Type 0} (b : Bool) (o : Option A) (t : A) → (if b then o else None) ≡ Some t → (b ≡ true) × (o ≡ Some t)
if_some true o t e = (refl, e)
if_some false o t e = absurd (none-some t e)

-- a step that is made is the next of a seat that is there
pub made_next : (problem : Problem) (crew : ℕ) (s : State) (e : Event) (t : Stepped) → Ranges problem crew s → step_at problem s e ≡ Some t
    → (e.seat < crew) × (met problem (view_at problem s e.seat) (word_at problem s (spot_of (view_at problem s e.seat).phase)) ≡ Some t)
made_next problem crew s e t ranges is =
    let v = view_at problem s e.seat in
    let old = word_at problem s (spot_of v.phase) in
    let seat = if_some (ltb e.seat (length s.views)) (step problem v e.kind old) t is in
    let next = if_some (is_next e.kind v.phase) (met problem v old) t seat.1 in
    (omega (arith, ltb-true e.seat (length s.views) seat.0, ranges.count), next.1)

-- and changes its view and one word
pub made_change : (problem : Problem) (crew : ℕ) (s : State) (e : Event) (t : Stepped) → Ranges problem crew s → e.seat < crew
    → IsChange problem crew s (with_step problem s e.seat (Some t)) e.seat t.sight (spot_of (view_at problem s e.seat).phase) t.word
made_change problem crew s e t ranges below =
    let f = (view_at problem s e.seat).phase in
    changed problem crew s e.seat t.sight (spot_of f) t.word ranges below (meets_spot problem.m problem.n f (ranges.views e.seat below).numbers)

-- an event changes nothing, or makes a move
pub taken : (problem : Problem) (crew : ℕ) (s : State) (e : Event) → Ranges problem crew s → (P : State → Type 0) → P s →
    ((t : State) → IsTaken problem crew s t → P t) → P (after_event problem s e)
taken problem crew s e ranges P same made = by_answer (step_at problem s e) refl
  where
    by_answer : (o : Option Stepped) → step_at problem s e ≡ o → P (with_step problem s e.seat o)
    by_answer None is = same
    by_answer (Some t) is =
        let v = view_at problem s e.seat in
        let next = made_next problem crew s e t ranges is in
        made (with_step problem s e.seat (Some t)) (record {
          seat = e.seat;
          sight = t.sight;
          spot = spot_of v.phase;
          word = t.word;
          change = made_change problem crew s e t ranges next.0;
          move = move_of problem v (word_at problem s (spot_of v.phase)) t next.1;
        })
