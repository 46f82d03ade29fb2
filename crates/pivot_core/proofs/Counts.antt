-- How many calls there are, and how often a column is won.
use Rattle.std.proofs.Common.{◌≡◌, ◌≢◌, inl, inr, ℕ, ◌*◌, ◌<◌, ◌≤◌, ◌==◌, All, AllPairs, Bool, cond, length, get_or, refl, ap, ◌∙◌, arith, subst}
use Rattle.std.specs.List.{sum_by}
use Rattle.std.proofs.lemmas.Bool.{cases_lt, ne_eqb}
use Rattle.std.proofs.lemmas.List.{get_or_default}
use Rattle.std.proofs.lemmas.List.Sums.{sum_by-le}
use Rattle.std.proofs.lemmas.Nat.{mul-le}
use Rattle.ideal_laws.specs.declared.account.Answer.{Answer}
use Rattle.ideal_laws.specs.declared.account.Answer.TheVariants as answer
use Rattle.ideal_laws.specs.declared.account.Call.{Call}
use Rattle.back_reduce.specs.declared.problem.Problem.{Problem}
use Rattle.pivot_core.specs.declared.sight.Sight.{Sight}
use Rattle.pivot_core.specs.Views.{fresh}
use Rattle.pivot_core.specs.Runs.{State, IsHeld, claim_at, holder_of, view_at}
use Rattle.pivot_core.specs.Rule.{DisjointRows, Ranges}
use Rattle.pivot_core.specs.Calls.{IsCall, call_count, is_won_at, won_count}
use Rattle.pivot_core.proofs.CallLists.{few_by, no_call, sum_by-none}
use Rattle.pivot_core.proofs.CallsKept.{call_held}

abbrev pub one_if : Bool → ℕ
one_if b = cond b 1 0

-- a call on another column does not win this one
pub is_won_at-other : (d : ℕ) (k : Call) → k.column ≢ d → is_won_at d k ≡ 0
is_won_at-other d k other = by_answer k.answer
  where
    by_answer : (a : Answer) → elim a as (λ (b : Answer). ℕ) [ answer.Won ↦ cond (k.column == d) 1 0 | answer.Lost row stamp ↦ 0 ] ≡ 0
    by_answer answer.Won = ap (λ (t : Bool). cond t 1 0) (ne_eqb k.column d other)
    by_answer (answer.Lost row stamp) = refl

module _ (problem : Problem) (crew : ℕ) (s : State) (ranges : Ranges problem crew s) where
  -- what holds of each view holds of all
  pub all_views : (P : Sight → Type 0) → ((i : ℕ) → i < crew → P (view_at problem s i)) → All P s.views
  all_views P h i d lt = subst P (get_or_default s.views i (fresh problem.m i) d lt) (h i (omega (arith, lt, ranges.count)))

  module _ (each : (i : ℕ) → i < crew → All (IsCall problem s i (view_at problem s i).clock) (view_at problem s i).calls) where
    -- a free column is not won
    pub won_count-free : (d : ℕ) → claim_at problem s d ≡ 0 → won_count s d ≡ 0
    won_count-free d free = sum_by-none (λ (z : Sight). sum_by (is_won_at d) z.calls) s.views
        (all_views (λ (z : Sight). sum_by (is_won_at d) z.calls ≡ 0)
        (λ i lt. sum_by-none (is_won_at d) (view_at problem s i).calls
        (λ j e within. is_won_at-other d (get_or (view_at problem s i).calls j e)
        (λ is. (call_held problem s i (view_at problem s i).clock (get_or (view_at problem s i).calls j e) (each i lt j e within)).some
        (ap (claim_at problem s) is ∙ free)))))

    module _ (columns : (i : ℕ) → i < crew → AllPairs (λ k l. k.column ≢ l.column) (view_at problem s i).calls) (apart : DisjointRows problem crew s) where
      -- a view has at most as many calls as columns, and as rows
      pub calls_below_columns : (i : ℕ) → i < crew → length (view_at problem s i).calls ≤ problem.m
      calls_below_columns i lt = few_by (λ k. k.column) problem.m (view_at problem s i).calls (λ j d within. (each i lt j d within).column)
          (λ j l before within e. columns i lt j l no_call before within e)

      -- a view has at most as many calls as there are rows
      pub calls_below_rows : (i : ℕ) → i < crew → length (view_at problem s i).calls ≤ problem.n
      calls_below_rows i lt =
          let calls = (view_at problem s i).calls in
          let held : (j : ℕ) (d : Call) → j < length calls → IsHeld problem s (get_or calls j d).column =
          λ j d within. call_held problem s i (view_at problem s i).clock (get_or calls j d) (each i lt j d within) in
          few_by (λ k. holder_of problem s k.column) problem.n calls
          (λ j d within. omega (arith, apart.holders_drawn (get_or calls j d).column (held j d within)))
          (λ j l before within e. columns i lt j l no_call before within
          (apart.holders_apart (get_or calls j no_call).column (get_or calls l no_call).column
          (held j no_call (omega (arith, before, within))) (held l no_call within) e))

      -- so at most 8192
      pub calls_few : (i : ℕ) → i < crew → length (view_at problem s i).calls ≤ 8192
      calls_few i lt = bounded (length (view_at problem s i).calls) (calls_below_rows i lt) (calls_below_columns i lt)
        where
          bounded : (k : ℕ) → k ≤ problem.n → k ≤ problem.m → k ≤ 8192
          bounded k rows columns = elim (cases_lt 8192 k) [
            | inl many ↦ (
                let least : 8193 * 8193 ≤ problem.n * problem.m = mul-le 8193 8193 problem.n problem.m (omega (arith, many, rows))
                (omega (arith, many, columns)) in
                absurd (omega (arith, least, problem.few)))
            | inr few ↦ few
          ]

      -- a crew of at most 64 has at most 2^19 calls in all
      pub call_count-few : crew ≤ 64 → call_count s ≤ 524288
      call_count-few small =
          let le : call_count s ≤ length s.views * 8192 = sum_by-le (λ (z : Sight). length z.calls) 8192 s.views
          (all_views (λ (z : Sight). length z.calls ≤ 8192) calls_few) in
          let most : length s.views * 8192 ≤ 64 * 8192 = mul-le (length s.views) 8192 64 8192 (omega (arith, small, ranges.count)) (omega arith) in
          omega (arith, le, most)
