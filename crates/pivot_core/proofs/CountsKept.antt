-- Calls and counts: every move keeps what is said of all calls together.
use Rattle.std.proofs.Common.{◌≡◌, ◌≢◌, inl, inr, ℕ, ◌+◌, ◌<◌, ◌≤◌, All, List, [], ◌∷◌, ◌++◌, length, get_or, sym, ap, ◌∙◌, arith, subst, refl}
use Rattle.std.specs.List.{sum_by}
use Rattle.std.proofs.lemmas.Bool.{cases_eq, ne_eqb, eq-eqb}
use Rattle.std.proofs.lemmas.List.{length-append}
use Rattle.ideal_laws.specs.declared.account.Call.{Call}
use Rattle.back_reduce.specs.declared.problem.Problem.{Problem}
use Rattle.pivot_core.specs.declared.view.Phase.{Phase}
use Rattle.pivot_core.specs.declared.sight.Sight.{Sight}
use Rattle.pivot_core.specs.Words.{Spot, claim_of, stamp_in}
use Rattle.pivot_core.specs.Steps.{lost_call, won_call}
use Rattle.pivot_core.specs.Runs.{State, IsHeld, claim_at, view_at, word_at}
use Rattle.pivot_core.specs.Rule.{Ranges}
use Rattle.pivot_core.specs.Calls.{IsCall, IsUnclaimed, call_count, is_won_at, won_count}
use Rattle.pivot_core.proofs.CallLists.{sum_by-one_more}
use Rattle.pivot_core.proofs.CallsKept.{IsCalling, call_held, called, silent}
use Rattle.pivot_core.proofs.Changes.{IsChange, numbers_at, word_met}
use Rattle.pivot_core.proofs.Counts.{one_if, won_count-free}
use Rattle.pivot_core.proofs.Effects.{claims_cases, held_before, won_elsewhere, won_free}
use Rattle.pivot_core.proofs.Moves.{IsMove, IsSettling, IsWonClaim, given_up, goes_on, draws, ends, looks_free, looks_held, puts, wins, loses}
use Rattle.pivot_core.proofs.Moves.{reads_more, reads_last}
use Rattle.pivot_core.proofs.Rows.{won_stamp}

module _ {problem : Problem} {crew : ℕ} {s t : State} {seat : ℕ} {w : Sight} {a : Spot} {x : ℕ} (c : IsChange problem crew s t seat w a x) where
  abbrev v : Sight
  v = view_at problem s seat

  abbrev old : ℕ
  old = word_at problem s a

  count_sum : call_count t + length v.calls ≡ call_count s + length w.calls
  count_sum = c.sums (λ (z : Sight). length z.calls)

  -- as many calls, or one more
  pub call_count-rises : IsCalling c → call_count s ≤ call_count t
  call_count-rises (silent same le) = omega (arith, count_sum, ap length same)
  call_count-rises (called k h) = omega (arith, count_sum, ap length h.calls, length-append v.calls (k ∷ []))

  won_sum : (d : ℕ) → won_count t d + sum_by (is_won_at d) v.calls ≡ won_count s d + sum_by (is_won_at d) w.calls
  won_sum d = c.sums (λ (z : Sight). sum_by (is_won_at d) z.calls)

  same_won : (d : ℕ) → w.calls ≡ v.calls → won_count t d ≡ won_count s d
  same_won d same = omega (arith, won_sum d, ap (sum_by (is_won_at d)) same)

  one_more_won : (d : ℕ) (k : Call) → w.calls ≡ v.calls ++ k ∷ [] → won_count t d ≡ won_count s d + is_won_at d k
  one_more_won d k more = omega (arith, won_sum d, ap (sum_by (is_won_at d)) more, sum_by-one_more (is_won_at d) v.calls k)

  -- a column that was held is not won again
  pub won_as_before : IsMove problem v old w a x → (d : ℕ) → IsHeld problem s d → won_count t d ≡ won_count s d
  won_as_before (draws m) d held = same_won d m.later.calls
  won_as_before (ends m) d held = same_won d m.later.calls
  won_as_before (looks_free m) d held = same_won d m.later.calls
  won_as_before (looks_held m) d held = same_won d m.later.calls
  won_as_before (puts m) d held = same_won d m.later.calls
  won_as_before (wins m) d held =
      let other : m.column ≢ d = λ is. held.some (ap (claim_at problem s) (sym is) ∙ won_free c m) in
      omega (
        arith,
        one_more_won d (won_call v m.row m.column) m.later.calls,
        ap one_if (ne_eqb m.column d other),
      )
  won_as_before (loses m) d held =
      omega (
        arith,
        one_more_won d (lost_call v m.row m.column old) m.later.calls,
      )
  won_as_before (reads_more m) d held = same_won d m.later.calls
  won_as_before (reads_last m) d held = same_won d m.later.calls

  module _ (ranges : Ranges problem crew s) (each : (i : ℕ) → i < crew → All (IsCall problem s i (view_at problem s i).clock) (view_at problem s i).calls) where
    newly_won : (m : IsWonClaim problem v old w a x) → won_count t m.column ≡ 1
    newly_won m =
        omega (
          arith,
          one_more_won m.column (won_call v m.row m.column) m.later.calls,
          ap one_if (eq-eqb m.column m.column refl),
          won_count-free problem crew s ranges each m.column (won_free c m),
        )

    -- where each held column was won once, each column that is held after a move is won once
    pub won_once : ((d : ℕ) → IsHeld problem s d → won_count s d ≡ 1) → IsMove problem v old w a x → (d : ℕ) → IsHeld problem t d → won_count t d ≡ 1
    won_once h move d held = elim (held_before c move d held) [
      | inl won ↦ ap (won_count t) won.1 ∙ newly_won won.0
      | inr was ↦ won_as_before move d was ∙ h d was
    ]

    -- a column that is found free has no call of the view
    found_free : (column : ℕ) → claim_at problem s column ≡ 0 → All (λ k. k.column ≢ column) v.calls
    found_free column free j d within is = (call_held problem s seat v.clock (get_or v.calls j d) (each seat c.below j d within)).some
        (ap (claim_at problem s) is ∙ free)

  module _ (ranges : Ranges problem crew s) (clock : v.clock ≤ call_count s)
      (stamps : (d : ℕ) → d < problem.m → stamp_in (claim_at problem s d) ≤ call_count s) where
    own_stamp : (column : ℕ) → a ≡ claim_of column → column < problem.m → stamp_in old ≤ call_count s
    own_stamp column spot lt = subst (λ (b : Spot). stamp_in (word_at problem s b) ≤ call_count s) (sym spot) (stamps column lt)

    count_by_one : (k : Call) → w.calls ≡ v.calls ++ k ∷ [] → call_count t ≡ call_count s + 1
    count_by_one k more = omega (arith, count_sum, ap length more, length-append v.calls (k ∷ []))

    count_same : w.calls ≡ v.calls → call_count t ≡ call_count s
    count_same same = omega (arith, count_sum, ap length same)

    -- where its clock and all stamps were at most the number of all calls, the clock of the view is so after a move
    pub own_clock : IsMove problem v old w a x → w.clock ≤ call_count t
    own_clock (draws m) = omega (arith, m.later.clock, clock, count_same m.later.calls)
    own_clock (ends m) = omega (arith, m.later.clock, clock, count_same m.later.calls)
    own_clock (looks_free m) = omega (arith, m.later.clock, clock, count_same m.later.calls)
    own_clock (looks_held m) =
        let numbers = numbers_at c ranges m.was in
        omega (arith, m.later.clock, clock, count_same m.later.calls, own_stamp m.column m.spot numbers.1)
    own_clock (puts m) = omega (arith, m.later.clock, clock, count_same m.later.calls)
    own_clock (wins m) = omega (arith, m.later.clock, clock, count_by_one _ m.later.calls)
    own_clock (loses m) =
        let numbers = numbers_at c ranges m.was in
        omega (arith, m.later.clock, clock, count_by_one _ m.later.calls, own_stamp m.column m.spot numbers.1)
    own_clock (reads_more m) = omega (arith, m.later.clock, clock, count_same m.later.calls)
    own_clock (reads_last m) = omega (arith, m.later.clock, clock, count_same m.later.calls)

    -- where its clock and all stamps were at most the number of all calls, the stamp in each claim word is so after a move
    pub stamps_kept : IsCalling c → IsMove problem v old w a x → (d : ℕ) → d < problem.m →
        stamp_in (claim_at problem t d) ≤ call_count t
    stamps_kept calling move d lt = elim (claims_cases c move) [
      | inr stay ↦ omega (arith, ap stamp_in (stay d lt), stamps d lt, call_count-rises calling)
      | inl m ↦ elim (cases_eq d m.column) [
        | inl is ↦ omega (
          arith,
          ap (λ (e : ℕ). stamp_in (claim_at problem t e)) is,
          won_stamp c ranges m,
          clock,
          count_by_one _ m.later.calls,
        )
        | inr other ↦ omega (arith, ap stamp_in (won_elsewhere c m d lt other), stamps d lt, call_count-rises calling)
      ]
    ]

  module _ (ranges : Ranges problem crew s) (each : (i : ℕ) → i < crew →
      All (IsCall problem s i (view_at problem s i).clock) (view_at problem s i).calls) (was : IsUnclaimed v.phase v.calls) where
    now_at : {f : Phase} → w.phase ≡ f → IsUnclaimed f w.calls → IsUnclaimed w.phase w.calls
    now_at is h = subst (λ (g : Phase). IsUnclaimed g w.calls) (sym is) h

    settled_unclaimed : (y : List ℕ) (row : ℕ) → IsSettling problem y row w → IsUnclaimed w.phase w.calls
    settled_unclaimed y row (goes_on within now current seen) = now_at now tt
    settled_unclaimed y row (given_up past now current seen) = now_at now tt

    -- where a move leaves its view in Putting or Claiming, the view has made no call on its column
    pub own_unclaimed : IsMove problem v old w a x → IsUnclaimed w.phase w.calls
    own_unclaimed (draws m) = settled_unclaimed _ old m.settling
    own_unclaimed (ends m) = now_at m.now tt
    own_unclaimed (looks_free m) = now_at m.now
        (subst (All (λ k. k.column ≢ m.column)) (sym m.later.calls) (found_free ranges each m.column (word_met c m.spot ∙ m.free)))
    own_unclaimed (looks_held m) = now_at m.now tt
    own_unclaimed (puts m) =
        let before : All (λ k. k.column ≢ m.column) v.calls = subst (λ (f : Phase). IsUnclaimed f v.calls) m.was was in
        elim m.now [
          | inl more ↦ now_at more.1 (subst (All (λ k. k.column ≢ m.column)) (sym m.later.calls) before)
          | inr last ↦ now_at last.1 (subst (All (λ k. k.column ≢ m.column)) (sym m.later.calls) before)
        ]
    own_unclaimed (wins m) = now_at m.now tt
    own_unclaimed (loses m) = now_at m.now tt
    own_unclaimed (reads_more m) = now_at m.now tt
    own_unclaimed (reads_last m) = settled_unclaimed _ m.row m.settling
