-- What the atomic steps of the table owe.
use Rattle.std.proofs.Common.{◌≡◌, ℕ, ◌+◌, ◌%◌, ◌^◌, ◌==◌, [], set, sym, ◌∙◌, subst}
use prog.Atomic.{either}
use Rattle.std.specs.Prelude.{slice_index}
use Rattle.atomic_table.specs.Table.{Allows, Me, Step}
use Rattle.back_reduce.specs.declared.problem.Problem.{Problem}
use Rattle.pivot_core.specs.declared.view.Phase.TheVariants as phase
use Rattle.pivot_core.specs.Words.{row_word}
use Rattle.pivot_core.specs.Steps.{spot_of}
use Rattle.pivot_core.specs.Meets.{LeavesWord}
use Rattle.pivot_table.specs.declared.share.Setting.{Setting}
use Rattle.pivot_table.specs.declared.share.Hand.{Hand}
use Rattle.pivot_table.specs.declared.share.Share.{Share}
use Rattle.pivot_table.specs.Cells.{cell_of, pair_at}
use Rattle.pivot_table.specs.Law.{IsKept, met_by, put_by}
use Rattle.pivot_table.proofs.Turns.{IsLoad, claims_goes, draws_goes, loads_goes, one, puts_goes}

-- a seat whose share is one hand
module _ (k : Setting) (slots id : ℕ) {me : Me ℕ Share} {p : Problem} {c : ℕ} {x : Hand} (own : me ≡ (one p c x, [])) (i : ℕ) (a : Step ℕ) where
  -- what is said of the seat with one hand is said of this seat
  by_own : (P : Me ℕ Share → Type 0) → P (one p c x, []) → P me
  by_own P h = subst P (sym own) h

  -- what a claim owes
  pub allows_claim : (new row column : ℕ) → i ≡ 1 + column → x.sight.phase ≡ phase.Claiming row column → LeavesWord k.problem x.sight 0 new
      → Allows (IsKept k) slots id me i (λ n. either (n == 0) new n) (met_by a me)
  allows_claim new row column is claiming leaves = by_own (λ m. Allows (IsKept k) slots id m i (λ n. either (n == 0) new n) (met_by a m))
      (λ s kept homes at small. claims_goes kept id at (λ e. cc (sym claiming ∙ e)) i new row column a is claiming leaves)

  -- what a look and a read owe
  pub allows_load : i ≡ cell_of k.problem.m (spot_of x.sight.phase) → IsLoad x.sight.phase → Allows (IsKept k) slots id me i (λ n. n) (met_by a me)
  allows_load is load = by_own (λ m. Allows (IsKept k) slots id m i (λ n. n) (met_by a m))
      (λ s kept homes at small. loads_goes kept id at (λ e. subst IsLoad e load) i a is load)

  -- what a draw owes
  pub allows_draw : i ≡ 0 → x.sight.phase ≡ phase.Fresh → Allows (IsKept k) slots id me i (λ n. (n + 1) % 2 ^ 64) (met_by a me)
  allows_draw is fresh = by_own (λ m. Allows (IsKept k) slots id m i (λ n. (n + 1) % 2 ^ 64) (met_by a m))
      (λ s kept homes at small. draws_goes kept id at (λ e. cc (sym fresh ∙ e)) i a is fresh)

  -- what a put owes
  pub allows_put : (new row column to : ℕ) → i ≡ cell_of k.problem.m (row_word row to) → x.sight.phase ≡ phase.Putting row column to
      → new ≡ pair_at (set x.published to (slice_index x.sight.current to)) to
      → Allows (IsKept k) slots id me i (λ n. new) (λ n. put_by a me new)
  allows_put new row column to is putting pair = by_own (λ m. Allows (IsKept k) slots id m i (λ n. new) (λ n. put_by a m new))
      (λ s kept homes at small. puts_goes kept id at (λ e. cc (sym putting ∙ e)) i new row column to a is putting pair)
