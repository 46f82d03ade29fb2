-- The calls of every state of every run are one legal history.
use Rattle.std.proofs.Common.{◌≡◌, inl, inr, ℕ, ◌<◌, All, Contains, List, [], ◌∷◌, length, map, get_or, refl, sym, ◌∙◌, arith, subst}
use Rattle.std.specs.List.{sum_by}
use Rattle.std.proofs.lemmas.Bool.{cases_eq, cases_lt}
use Rattle.std.proofs.lemmas.List.{get_or-map, length-map}
use Rattle.std.proofs.lemmas.List.Elements.{All-map, All-weaker}
use Rattle.std.proofs.lemmas.List.Sorted.{All-permutation, Contains-permutation, length_permutation, sum_by-IsPermutation}
use Rattle.std.proofs.lemmas.List.Sums.{sum_by-cons}
use Rattle.ideal_laws.specs.declared.account.Call.{Call}
use Rattle.back_reduce.specs.declared.problem.Problem.{Problem}
use Rattle.pivot_core.specs.declared.sight.Sight.{Sight}
use Rattle.pivot_core.specs.Views.{fresh}
use Rattle.pivot_core.specs.Runs.{State, IsHeld, claim_at, state_after, view_at}
use Rattle.pivot_core.specs.Calls.{IsCall, is_won_at, won_count}
use Rattle.pivot_core.specs.Claimed.{ClaimedPivots}
use Rattle.pivot_core.specs.History.{joined_calls, merged}
use Rattle.pivot_core.specs.Laws.{IsLegalHistory, OneLegalHistory, logs_of}
use Rattle.pivot_core.proofs.CallLists.{sum_by-none}
use Rattle.pivot_core.proofs.CallsKept.{call_held}
use Rattle.pivot_core.proofs.Counts.{all_views, is_won_at-other}
use Rattle.pivot_core.proofs.Kept.{claimed_pivots}
use Rattle.pivot_core.proofs.LegalHistoryReplays.{IsTrueCall, replays_sorted}
use Rattle.pivot_core.proofs.SortedCalls.{All-joined_calls, joined_calls-contains, length-joined_calls, sorted_calls-in_order, sorted_calls-moves}
use Rattle.pivot_core.proofs.SortedCalls.{sum_by-joined_calls}

-- a sum over what a list is mapped to
sum_by-map : {X Y : Type 0} (f : Y → ℕ) (g : X → Y) (xs : List X) → sum_by f (map g xs) ≡ sum_by (λ x. f (g x)) xs
sum_by-map f g [] = refl
sum_by-map f g (x ∷ xs) = omega (arith, sum_by-cons f (g x) (map g xs), sum_by-map f g xs, sum_by-cons (λ y. f (g y)) x xs)

-- by whether a column is held
by_held : (problem : Problem) (s : State) (c : ℕ) {A : Type 0} → (IsHeld problem s c → A) → ((IsHeld problem s c → ⊥) → A) → A
by_held problem s c {A} on off = elim (cases_lt c problem.m) [
  | inr out ↦ off (λ h. omega (arith, h.below, out))
  | inl below ↦ elim (cases_eq (claim_at problem s c) 0) [
    | inl free ↦ off (λ h. h.some free)
    | inr some ↦ on (record { below = below; some = some })
  ]
]

module _ (problem : Problem) (crew : ℕ) (s : State) (h : ClaimedPivots problem crew s) where
  abbrev logs : List (List Call)
  logs = logs_of s

  abbrev calls : List Call
  calls = merged logs

  -- the log of a seat
  pub log_at : (i : ℕ) → i < crew → get_or logs i [] ≡ (view_at problem s i).calls
  log_at i lt = get_or-map (λ (v : Sight). v.calls) s.views i (fresh problem.m i) [] (omega (arith, lt, h.ranges.count))

  -- there are as many logs as seats
  pub length-logs : length logs ≡ crew
  length-logs = length-map s.views (λ (v : Sight). v.calls) ∙ h.ranges.count

  -- what each view's calls have, the joined calls have, and so the sorted ones
  pub each_call : (P : Call → Type 0) → ((i : ℕ) → i < crew → All P (view_at problem s i).calls) → All P calls
  each_call P each =
      All-permutation P (joined_calls logs) calls (sorted_calls-moves (joined_calls logs))
      (All-joined_calls P logs (All-map (All P) (λ (v : Sight). v.calls) s.views (all_views problem crew s h.ranges (λ (v : Sight). All P v.calls) each)))

  told : All (IsTrueCall problem s) calls
  told = each_call (IsTrueCall problem s)
      (λ i lt. All-weaker (IsCall problem s i (view_at problem s i).clock) (IsTrueCall problem s)
      (λ k is. record { own = refl; column = is.column; row = is.row; stamp = omega arith; answered = is.answered })
      (view_at problem s i).calls (h.calls_and_counts.each i lt))

  summed : (f : Call → ℕ) → sum_by f calls ≡ sum_by (λ v. sum_by f v.calls) s.views
  summed f =
      sum_by-IsPermutation f (joined_calls logs) calls (sorted_calls-moves (joined_calls logs)) ∙ sum_by-joined_calls f logs
      ∙ sum_by-map (λ (log : List Call). sum_by f log) (λ (v : Sight). v.calls) s.views

  -- a column that is not held is not won
  not_won : (c : ℕ) → (IsHeld problem s c → ⊥) → won_count s c ≡ 0
  not_won c unheld = sym (summed (is_won_at c)) ∙ sum_by-none (is_won_at c) calls
      (λ j d within. is_won_at-other c (get_or calls j d) (λ is. unheld
      (subst (IsHeld problem s) is (call_held problem s (get_or calls j d).seat (get_or calls j d).stamp (get_or calls j d)
      (told j d within)))))

  -- under the rule of claimed pivots the calls by (stamp, seat) are a history of the one-thread object, in which each stands once
  pub legal_history : IsLegalHistory problem crew s
  legal_history = record {
    replays = replays_sorted problem s calls told (sorted_calls-in_order (joined_calls logs)) (λ c held. summed (is_won_at c) ∙ h.calls_and_counts.won c held);
    once = λ c. by_held problem s c (λ held. omega (arith, h.calls_and_counts.won c held)) (λ unheld. omega (arith, not_won c unheld));
    own_order = h.calls_and_counts.rising;
    inside = inside;
    count =
        length_permutation (joined_calls logs) calls (sorted_calls-moves (joined_calls logs)) ∙ length-joined_calls logs
        ∙ sum_by-map (λ (log : List Call). length log) (λ (v : Sight). v.calls) s.views;
  }
    where
      inside : (i : ℕ) → i < crew → All (Contains calls) (view_at problem s i).calls
      inside i lt =
          All-weaker (Contains (joined_calls logs)) (Contains calls) (λ k there. Contains-permutation (joined_calls logs) calls k
          (sorted_calls-moves (joined_calls logs)) there) (view_at problem s i).calls
          (subst (All (Contains (joined_calls logs))) (log_at i lt) (joined_calls-contains logs i [] (omega (arith, lt, length-logs))))

-- in the state after any run the calls by (stamp, seat) are a history of the one-thread object, in which each stands once
pub one_legal_history : OneLegalHistory
one_legal_history problem crew setting events = legal_history problem crew (state_after problem crew events) (claimed_pivots problem crew setting events)
