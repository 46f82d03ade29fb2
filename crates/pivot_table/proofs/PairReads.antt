-- A worker that reads the two words of a cell in turn.
use Rattle.std.proofs.Common.{◌≡◌, ◌⊎◌, inl, inr, ℕ, ◌+◌, ◌-◌, ◌*◌, ◌/◌, ◌%◌, ◌<◌, ◌≤◌, max, sym, ◌∙◌, arith, subst}
use Rattle.std.specs.Vec.{with_item}
use Rattle.atomic_table.specs.declared.shared.Seat.{Seat}
use Rattle.pivot_core.specs.Words.{row_word}
use Rattle.pivot_table.specs.declared.share.Share.{Share}
use Rattle.pivot_table.specs.Law.{met_by}
use Rattle.pivot_table.proofs.WorkerTurns.{still}
use Rattle.pivot_table.specs.declared.worker.Worker.TheInside as worker
use Rattle.pivot_table.specs.declared.race.Race.TheInside as race
use Rattle.pivot_table.specs.Cells.{cell_of, half_at}
use Rattle.pivot_table.specs.Workers.{Standing}
use Rattle.pivot_table.proofs.RowReads.{ReadsAt, cell_on, reads_step}

-- the pairs begin at an even column, or there are none
pub pairs_from : (even last pair : ℕ) → (even % 2 ≡ 0) ⊎ (even ≡ last) → even / 2 ≤ pair → pair < last / 2 → even ≤ 2 * pair
pairs_from even last pair (inl is) from lt = omega (arith, is, from)
pairs_from even last pair (inr is) from lt = absurd (omega (arith, is, from, lt))

max_upper : (x y : ℕ) → x ≤ y → max x y ≡ y
max_upper x y le = omega (arith, le)

-- a worker before a pair of words
module _ {race : race.Inside} {before : Standing} {w : worker.Inside} {row column holder at : ℕ} (even pair : ℕ) (after : at ≤ even)
    (parity : (even % 2 ≡ 0) ⊎ (even ≡ race.setting.problem.m - 1)) (from : even / 2 ≤ pair) (lt : pair < (race.setting.problem.m - 1) / 2)
    (h : ReadsAt race before w row column holder at (max even (2 * pair))) where
  low : even ≤ 2 * pair
  low = pairs_from even (race.setting.problem.m - 1) pair parity from lt

  -- a worker before a pair reads at its first word
  pub pair_begins : ReadsAt race before w row column holder at (2 * pair)
  pair_begins = subst (ReadsAt race before w row column holder at) (max_upper even (2 * pair) low) h

  -- between its words
  module _ (cell : ℕ) {word : ℕ} (seat : Seat ℕ Share) (same : seat.table_id ≡ w.seat.table_id) (told : met_by still w.seat.me cell seat.me)
      (half : word ≡ half_at (2 * pair) cell) where
    abbrev between : worker.Inside
    between = record w { view = record w.view { seen = with_item w.view.seen (2 * pair) word }; seat = seat }

    -- once this word is read, the worker reads at the second one
    pub pair_between : ReadsAt race before between row column holder at (2 * pair + 1)
    pair_between = reads_step pair_begins (omega (arith, after, low)) (omega (arith, lt)) cell seat same told half

    -- and after them
    pub pair_ends : (cell : ℕ) {word : ℕ} (last : Seat ℕ Share) → last.table_id ≡ seat.table_id → met_by still seat.me cell last.me
        → word ≡ half_at (2 * pair + 1) cell
        → ReadsAt race before (record between { view = record between.view { seen = with_item between.view.seen (2 * pair + 1) word }; seat = last })
        row column holder at (max even (2 * (pair + 1)))
    pair_ends cell {word} last same told half =
        let is : 2 * pair + 1 + 1 ≡ max even (2 * (pair + 1)) = omega arith ∙ sym (max_upper even (2 * (pair + 1)) (omega (arith, low))) in
        subst (ReadsAt race before (record between { view = record between.view { seen = with_item between.view.seen (2 * pair + 1) word }; seat = last })
        row column holder at) is (reads_step pair_between (omega (arith, after, low)) (omega (arith, lt)) cell last same told half)

-- and the cell of a pair
pub pair_cell : (m r pair first : ℕ) → first ≡ cell_of m (row_word r 0) → first + pair ≡ cell_of m (row_word r (2 * pair))
pair_cell m r pair first is = omega arith ∙ cell_on m r (2 * pair) first is

-- the second word of a pair stands in the cell of the first
pub pair_cell_again : (m r pair first : ℕ) → first ≡ cell_of m (row_word r 0) → first + pair ≡ cell_of m (row_word r (2 * pair + 1))
pair_cell_again m r pair first is = omega arith ∙ cell_on m r (2 * pair + 1) first is
