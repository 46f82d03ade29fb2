-- A worker that reads a row, word after word.
use Rattle.std.proofs.Common.{◌≡◌, ◌⊎◌, inl, inr, false, ℕ, ◌+◌, ◌-◌, ◌/◌, ◌<◌, ◌≤◌, List, refl, sym, ap, ◌∙◌, arith, subst}
use Rattle.std.specs.Vec.{with_item}
use Rattle.atomic_table.specs.declared.shared.Seat.{Seat}
use Rattle.atomic_table.specs.Table.{Allows}
use Rattle.back_reduce.specs.declared.problem.Problem.{Problem}
use Rattle.pivot_core.specs.declared.view.Phase.{Phase}
use Rattle.pivot_core.specs.declared.view.Phase.TheVariants as phase
use Rattle.pivot_core.specs.declared.view.View.{View}
use Rattle.pivot_core.specs.declared.sight.Sight.{Sight}
use Rattle.pivot_core.specs.declared.event.Kind.TheVariants as kind
use Rattle.pivot_core.specs.declared.event.Reply.{Reply}
use Rattle.pivot_core.specs.declared.event.Reply.TheVariants as reply
use Rattle.pivot_core.specs.Views.{sight_of}
use Rattle.pivot_core.specs.Words.{Spot, row_word}
use Rattle.pivot_core.specs.Steps.{IsMet, Stepped, is_next, spot_of}
use Rattle.pivot_core.proofs.MetRows.{meets_read}
use Rattle.pivot_core.proofs.Moves.{IsMove, IsSettling, goes_on, given_up, draws, ends, looks_free, looks_held, puts, wins, loses, reads_more, reads_last}
use Rattle.pivot_core.proofs.Table.{move_of}
use Rattle.pivot_table.specs.declared.share.Share.{Share}
use Rattle.pivot_table.specs.declared.worker.Worker.TheInside as worker
use Rattle.pivot_table.specs.declared.race.Race.TheInside as race
use Rattle.pivot_table.specs.Cells.{cell_of, half_at}
use Rattle.pivot_table.specs.Law.{IsKept, met_by}
use Rattle.pivot_table.specs.Shares.{published_after}
use Rattle.pivot_table.specs.WorkerFields.{own_hand, standing_of}
use Rattle.pivot_table.specs.Workers.{Arena, AreTaken, IsOf, IsReadUpto, IsTaken, Standing, arena_of, begun, gone_on}
use Rattle.pivot_table.proofs.Turns.{IsLoad}
use Rattle.pivot_table.proofs.WorkerTurns.{IsTurn, load_asks, read_within, still}
use Rattle.pivot_table.proofs.WorkersTold.{IsTold, crew_kept, load_publishes, problem_kept, taken_after, told_half, worker_after}

-- no step or some
abbrev pub MayBeTaken : Arena → Standing → Standing → Type 0
MayBeTaken a before after = (after ≡ before) ⊎ AreTaken a before after

-- and one step more
pub taken_on : (a : Arena) (before between after : Standing) (r : Reply) → MayBeTaken a before between → IsTaken a between after r → AreTaken a before after
taken_on a before between after r (inl same) t = begun after r (subst (λ (z : Standing). IsTaken a z after r) same t)
taken_on a before between after r (inr steps) t = gone_on between after r steps t

-- the worker has come here from before by its own steps
pub record IsReading (race : race.Inside) (before : Standing) (w : worker.Inside) : Type 0 where
  pub turn : IsTurn race w
  pub taken : MayBeTaken (arena_of race.table.shared.table_id race.setting) before (standing_of w)
  pub seat : w.view.seat ≡ before.sight.seat

-- the worker reads here, after so many steps
abbrev pub reading_at : worker.Inside → Phase → ℕ → worker.Inside
reading_at w f steps = record w { view = record w.view { phase = f; steps = steps } }

-- a worker that reads a word that is not the last
module _ {race : race.Inside} {before : Standing} {w : worker.Inside} (h : IsReading race before w) (row column holder at : ℕ)
    (is : w.view.phase ≡ phase.Reading row column holder at) (more : at + 1 < race.setting.problem.m)
    (cell word : ℕ) (seat : Seat ℕ Share) (same : seat.table_id ≡ w.seat.table_id) (told : met_by still w.seat.me cell seat.me)
    (half : word ≡ half_at at cell) where
  abbrev after : View
  after = record w.view { phase = phase.Reading row column holder (at + 1); seen = with_item w.view.seen at word; steps = w.view.steps + 1 }

  told_so : IsTold w word seat.me
  told_so = told_half h.turn cell word seat.me is half told

  made : IsMet race.setting.problem (sight_of w.view) word (sight_of after) (reply.Got word)
  made = meets_read race.setting.problem (sight_of w.view) word is more

  loads : w.published.items ≡ published_after w.seat.me.0.problem.m (own_hand w)
  loads = load_publishes h.turn (subst IsLoad (sym is) tt)

  -- it has come here by one step more
  pub reads_on : IsReading race before (record w { view = after; seat = seat })
  reads_on = record {
    turn = record {
      kept = h.turn.kept;
      own = worker_after h.turn told_so after made (omega arith) w.published loads seat refl;
      table = same ∙ h.turn.table;
      problem_is = problem_kept h.turn told_so after made (omega arith) w.published loads seat refl ∙ h.turn.problem_is;
      crew_is = crew_kept h.turn told_so after made (omega arith) w.published loads seat refl ∙ h.turn.crew_is;
    };
    taken = inr (taken_on (arena_of race.table.shared.table_id race.setting) before (standing_of w)
        (standing_of (record w { view = after; seat = seat })) (reply.Got word) h.taken
        (taken_after h.turn told_so after made (omega arith) w.published loads seat refl));
    seat = h.seat;
  }

-- the worker has come here from before and reads at a place of a row, after a step for each word since it began
pub record ReadsAt (race : race.Inside) (before : Standing) (w : worker.Inside) (row column holder at next : ℕ) : Type 0 where
  pub here : IsReading race before (reading_at w (phase.Reading row column holder next) (w.view.steps + (next - at)))

module _ {race : race.Inside} {before : Standing} {w : worker.Inside} {row column holder at next : ℕ} (h : ReadsAt race before w row column holder at next)
  where
    -- what its next load asks, and room for the word
    pub load_here : (cell : ℕ) → cell ≡ cell_of race.setting.problem.m (row_word holder next)
        → (w.seat.table_id ≡ race.table.shared.table_id) × (cell < race.table.shared.table_id.words)
        × Allows (IsKept race.table.shared.key) race.table.shared.table_id.slots w.seat.id w.seat.me cell (λ n. n) (met_by still w.seat.me)
    load_here cell is = load_asks h.here.turn cell is tt

    -- the place of its next word is one of the list of what it has seen
    pub seen_here : next < w.view.seen.len
    seen_here =
        let within = read_within h.here.turn refl in
        omega (arith, within, w.view.seen.ok.0)

    -- so it is from word to word of a row
    pub reads_step : at ≤ next → next + 1 < race.setting.problem.m → (cell : ℕ) {word : ℕ} (seat : Seat ℕ Share) → seat.table_id ≡ w.seat.table_id
        → met_by still w.seat.me cell seat.me → word ≡ half_at next cell
        → ReadsAt race before (record w { view = record w.view { seen = with_item w.view.seen next word }; seat = seat }) row column holder at (next + 1)
    reads_step from more cell {word} seat same told half =
        let count : w.view.steps + (next - at) + 1 ≡ w.view.steps + (next + 1 - at) = omega (arith, from) in
        record {
          here = subst (λ (n : ℕ). IsReading race before (reading_at (record w { view = record w.view { seen = with_item w.view.seen next word }; seat = seat })
              (phase.Reading row column holder (next + 1)) n)) count (reads_on h.here row column holder next refl more cell word seat same told half);
        }

    -- and after the loop it reads the last word
    pub reads_end : (last steps : ℕ) → next ≡ last → steps ≡ last - at
        → IsReading race before (reading_at w (phase.Reading row column holder last) (w.view.steps + steps))
    reads_end last steps is count =
        subst (λ (k : ℕ). IsReading race before (reading_at w (phase.Reading row column holder last) (w.view.steps + k))) (sym count)
        (subst (λ (j : ℕ). IsReading race before (reading_at w (phase.Reading row column holder j) (w.view.steps + (j - at)))) is h.here)

-- a worker of a race belongs to it
pub belongs : {race : race.Inside} {w : worker.Inside} (a : Arena) → arena_of race.table.shared.table_id race.setting ≡ a → IsTurn race w
    → IsOf a (standing_of w)
belongs {w} a is turn = subst (λ (z : Arena). IsOf z (standing_of w)) is
    (record { table = turn.table; problem = turn.problem_is; crew = turn.crew_is })

-- it has come here by steps in the race
pub reads_taken : {race : race.Inside} {before : Standing} {w : worker.Inside} (a : Arena) → arena_of race.table.shared.table_id race.setting ≡ a
    → IsReading race before w → MayBeTaken a before (standing_of w)
reads_taken {before} {w} a is h = subst (λ (z : Arena). MayBeTaken z before (standing_of w)) is h.taken

-- the cell of a word, from that of the first word of its row
pub cell_on : (m r j first : ℕ) → first ≡ cell_of m (row_word r 0) → first + j / 2 ≡ cell_of m (row_word r j)
cell_on m r j first is = ap (λ (k : ℕ). k + j / 2) is ∙ omega arith

-- after the last word the row is read
settled_read : (problem : Problem) (y : List ℕ) (row : ℕ) (w : Sight) → IsSettling problem y row w → is_next kind.Read w.phase ≡ false
settled_read problem y row w (goes_on lt is current seen) = ap (is_next kind.Read) is
settled_read problem y row w (given_up le is current seen) = ap (is_next kind.Read) is

row_moved : (problem : Problem) (v : Sight) (old : ℕ) (w : Sight) (a : Spot) (x : ℕ) → IsReadUpto problem.m v.phase → IsMove problem v old w a x
    → is_next kind.Read w.phase ≡ false
row_moved problem v old w a x h (draws d) = absurd (cc (sym h.is ∙ d.was))
row_moved problem v old w a x h (ends d) = absurd (cc (sym h.is ∙ d.was))
row_moved problem v old w a x h (looks_free d) = absurd (cc (sym h.is ∙ d.was))
row_moved problem v old w a x h (looks_held d) = absurd (cc (sym h.is ∙ d.was))
row_moved problem v old w a x h (puts d) = absurd (cc (sym h.is ∙ d.was))
row_moved problem v old w a x h (wins d) = absurd (cc (sym h.is ∙ d.was))
row_moved problem v old w a x h (loses d) = absurd (cc (sym h.is ∙ d.was))
row_moved problem v old w a x h (reads_more d) =
    absurd (omega (arith, d.more, h.last, place_same h.row h.column h.holder h.at d.row d.column d.holder d.at (sym h.is ∙ d.was)))
  where
    place_same : (r c b k s d e l : ℕ) → phase.Reading r c b k ≡ phase.Reading s d e l → k ≡ l
    place_same r c b k s d e l is = cc is
row_moved problem v old w a x h (reads_last d) = settled_read problem _ d.row w d.settling

-- the row that a worker read to its last word is read after the next step
pub row_read : (problem : Problem) (v : Sight) (old : ℕ) (w : Sight) (r : Reply) → IsReadUpto problem.m v.phase → IsMet problem v old w r
    → is_next kind.Read w.phase ≡ false
row_read problem v old w r h m =
    let t : Stepped = record { sight = w; word = m.word; reply = r } in
    row_moved problem v old w (spot_of v.phase) m.word h (move_of problem v old t m.gives)
