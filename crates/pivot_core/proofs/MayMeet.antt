-- In a state that keeps the rule, each view that has not ended may meet its word.
use Rattle.std.proofs.Common.{◌≡◌, ◌≢◌, inl, inr, ℕ, ◌+◌, ◌-◌, ◌*◌, ◌<◌, ◌≤◌, ◌^◌, All, length, refl, sym, ap, ◌∙◌, arith, subst}
use Rattle.std.specs.List.{sum_by}
use Rattle.std.proofs.lemmas.List.Elements.{All-from_get_or, All-get_or, All-replicate}
use Rattle.std.proofs.lemmas.Nat.{mul-le}
use Rattle.std.proofs.lemmas.Bool.{cases_lt}
use Rattle.back_reduce.specs.declared.problem.Problem.{Problem}
use Rattle.pivot_core.specs.declared.view.Phase.{Phase}
use Rattle.pivot_core.specs.declared.view.Phase.TheVariants as phase
use Rattle.pivot_core.specs.declared.sight.Sight.{Sight}
use Rattle.pivot_core.specs.Words.{counter, row_word}
use Rattle.pivot_core.specs.Views.{zeros}
use Rattle.pivot_core.specs.Steps.{spot_of}
use Rattle.pivot_core.specs.Runs.{State, claim_at, view_at, word_at}
use Rattle.pivot_core.specs.Phases.{HasRow, IsIdle, IsPhase, IsUnread, is_ended}
use Rattle.pivot_core.specs.Rule.{IsRead}
use Rattle.pivot_core.specs.Calls.{call_count, steps_of_row}
use Rattle.pivot_core.specs.Claimed.{ClaimedPivots}
use Rattle.pivot_core.specs.Laws.{IsSetting}
use Rattle.pivot_core.specs.Meets.{IsMetClaim, IsMetWord, MayMeet}
use Rattle.std.proofs.Math.Nat.{mul-add, mul_assoc, mul_comm}
use Rattle.pivot_core.proofs.Counts.{call_count-few}
use Rattle.pivot_core.proofs.HeldRows.{held_row-at, values-from}
use Rattle.pivot_core.proofs.Ended.{at_most_all}
use Rattle.pivot_core.proofs.StepCounts.{drawn_few, steps_few}

module _ (problem : Problem) (crew : ℕ) (setting : IsSetting problem crew) (s : State) (h : ClaimedPivots problem crew s) (i : ℕ) (lt : i < crew) where
  abbrev v : Sight
  v = view_at problem s i

  two : 2 ≤ problem.modulus
  two = setting.field.two_or_more

  zeros_residues : (m : ℕ) → All (λ a. a < problem.modulus) (zeros m)
  zeros_residues m = All-replicate (λ a. a < problem.modulus) m 0 (omega (arith, two))

  calls_few : call_count s ≤ 524288
  calls_few = call_count-few problem crew s h.ranges h.calls_and_counts.each h.calls_and_counts.columns h.disjoint_rows setting.few

  met_claim : (c : ℕ) → c < problem.m → IsMetClaim problem.n (claim_at problem s c)
  met_claim c within = record { claim = h.ranges.claims c within; stamp = omega (arith, h.calls_and_counts.stamps c within, calls_few) }

  -- the counter is at most the rows and the crew
  counter_few : word_at problem s counter ≤ problem.n + 64
  counter_few =
      let ended : sum_by (λ (z : Sight). is_ended z.phase) s.views ≤ length s.views = at_most_all s.views in
      omega (arith, h.counter_sum.counts, h.counter_sum.few, ended, h.ranges.count, setting.few)

  -- the word that a read meets is a residue of the held row
  read_word : (row column holder at : ℕ) → v.phase ≡ phase.Reading row column holder at → word_at problem s (row_word holder at) < problem.modulus
  read_word row column holder at is =
      let numbers : IsPhase problem.m problem.n (phase.Reading row column holder at) = subst (IsPhase problem.m problem.n) is (h.ranges.views i lt).numbers in
      let read : IsRead problem s (phase.Reading row column holder at) v.seen = subst (λ (f : Phase). IsRead problem s f v.seen) is (h.read_prefix i lt) in
      let row_is = h.held_in_span.residues column read.0 in
      let residue = All-get_or (λ a. a < problem.modulus) _ at 0 (omega (arith, row_is.size, numbers.3)) row_is.residues in
      subst (λ (k : ℕ). k < problem.modulus) (held_row-at problem s column at numbers.3 ∙ values-from problem s column at read.0 numbers.2
      ∙ ap (λ (r : ℕ). word_at problem s (row_word r at)) read.1) residue

  met_word : (f : Phase) → v.phase ≡ f → IsMetWord problem f (word_at problem s (spot_of f))
  met_word phase.Fresh is = tt
  met_word (phase.Looking row column) is = met_claim column (subst (IsPhase problem.m problem.n) is (h.ranges.views i lt).numbers).1
  met_word (phase.Putting row column at) is = tt
  met_word (phase.Claiming row column) is = met_claim column (subst (IsPhase problem.m problem.n) is (h.ranges.views i lt).numbers).1
  met_word (phase.Reading row column holder at) is = read_word row column holder at is
  met_word phase.Ended is = tt

  idle_residues : v.current ≡ zeros problem.m → All (λ a. a < problem.modulus) v.current
  idle_residues none = subst (All (λ a. a < problem.modulus)) (sym none) (zeros_residues problem.m)

  row_residues : (row : ℕ) → HasRow v.phase row → All (λ a. a < problem.modulus) v.current
  row_residues row has = (h.published_prefix.residues i row lt has).residues

  -- the current row has residues in every phase
  current_residues : (f : Phase) → v.phase ≡ f → All (λ a. a < problem.modulus) v.current
  current_residues phase.Fresh is = idle_residues (subst (λ (f : Phase). IsIdle problem.m f v.current) is (h.ranges.views i lt).idle)
  current_residues (phase.Looking row column) is = row_residues row (subst (λ (f : Phase). HasRow f row) (sym is) refl)
  current_residues (phase.Putting row column at) is = row_residues row (subst (λ (f : Phase). HasRow f row) (sym is) refl)
  current_residues (phase.Claiming row column) is = row_residues row (subst (λ (f : Phase). HasRow f row) (sym is) refl)
  current_residues (phase.Reading row column holder at) is = row_residues row (subst (λ (f : Phase). HasRow f row) (sym is) refl)
  current_residues phase.Ended is = idle_residues (subst (λ (f : Phase). IsIdle problem.m f v.current) is (h.ranges.views i lt).idle)

  unread_residues : (f : Phase) → v.phase ≡ f → v.seen ≡ zeros problem.m → All (λ a. a < problem.modulus) v.seen
  unread_residues f is none = subst (All (λ a. a < problem.modulus)) (sym none) (zeros_residues problem.m)

  unread_at : (f : Phase) → v.phase ≡ f → IsUnread problem.m f v.seen
  unread_at f is = subst (λ (g : Phase). IsUnread problem.m g v.seen) is (h.ranges.views i lt).unread

  -- what was seen has residues in every phase
  seen_residues : (f : Phase) → v.phase ≡ f → All (λ a. a < problem.modulus) v.seen
  seen_residues phase.Fresh is = unread_residues phase.Fresh is (unread_at phase.Fresh is)
  seen_residues (phase.Looking row column) is = unread_residues (phase.Looking row column) is (unread_at (phase.Looking row column) is)
  seen_residues (phase.Putting row column at) is = unread_residues (phase.Putting row column at) is (unread_at (phase.Putting row column at) is)
  seen_residues (phase.Claiming row column) is = unread_residues (phase.Claiming row column) is (unread_at (phase.Claiming row column) is)
  seen_residues (phase.Reading row column holder at) is =
      let read : IsRead problem s (phase.Reading row column holder at) v.seen = subst (λ (f : Phase). IsRead problem s f v.seen) is (h.read_prefix i lt) in
      let row_is = h.held_in_span.residues column read.0 in
      All-from_get_or (λ a. a < problem.modulus) v.seen 0 (λ j within. elim (cases_lt j at) [
        | inl before ↦ subst (λ (k : ℕ). k < problem.modulus) (sym (read.2 j before))
            (All-get_or (λ a. a < problem.modulus) _ j 0 (omega (arith, row_is.size, within, (h.ranges.views i lt).seen)) row_is.residues)
        | inr from ↦ omega (arith, read.3 j from (omega (arith, within, (h.ranges.views i lt).seen)), two)
      ])
  seen_residues phase.Ended is = unread_residues phase.Ended is (unread_at phase.Ended is)

  drawn_small : v.phase ≡ phase.Fresh → problem.n < 2 ^ 32 → word_at problem s (spot_of v.phase) < problem.n → v.drawn < 2 ^ 32 - 1
  drawn_small is rows some =
      omega (arith, some, ap (λ (f : Phase). word_at problem s (spot_of f)) is, rows, drawn_few problem crew s h i lt, h.counter_sum.counts)

  -- the steps of all rows are few
  steps_small : problem.n < 2 ^ 32 → problem.m < 2 ^ 32 → v.steps < 2 ^ 64 - 1
  steps_small rows columns =
      let n : ℕ = problem.n in
      let m : ℕ = problem.m in
      let split : n * steps_of_row m ≡ n * (m * m + 3 * m) + n * 1 = mul-add n (m * m + 3 * m) 1 in
      let again : n * (m * m + 3 * m) ≡ n * (m * m) + n * (3 * m) = mul-add n (m * m) (3 * m) in
      let square : n * (m * m) ≡ n * m * m = sym (mul_assoc n m m) in
      let three : n * (3 * m) ≡ n * m * 3 = ap (λ (k : ℕ). n * k) (mul_comm 3 m) ∙ sym (mul_assoc n m 3) in
      let cells : n * m * m ≤ 67108864 * 4294967296 = mul-le (n * m) m 67108864 4294967296 problem.few (omega (arith, columns)) in
      omega (arith, steps_few problem crew s h i lt, split, again, square, three, cells, problem.few, rows)

  -- the counter does not wrap
  pub counter_small : v.phase ≡ phase.Fresh → problem.n < 2 ^ 32 → word_at problem s (spot_of v.phase) < 2 ^ 64 - 1
  counter_small is rows = omega (arith, counter_few, ap (λ (f : Phase). word_at problem s (spot_of f)) is, rows)

  -- under the rule of claimed pivots, with fewer than 2^32 rows and columns, a view that has not ended may meet the word of its next step
  pub may_meet : problem.n < 2 ^ 32 → problem.m < 2 ^ 32 → v.phase ≢ phase.Ended → MayMeet problem v (word_at problem s (spot_of v.phase))
  may_meet rows columns next = record {
    next = next;
    sight = h.ranges.views i lt;
    current = current_residues v.phase refl;
    seen = seen_residues v.phase refl;
    word = met_word v.phase refl;
    steps = steps_small rows columns;
    clock = omega (arith, h.calls_and_counts.clocks i lt, calls_few);
    drawn = λ is. drawn_small is rows;
  }
