-- Calls in order that tell what their columns hold are a history of the one-thread object.
use Rattle.std.proofs.Common.{◌≡◌, ℕ, zero, suc, ◌+◌, ◌<◌, ◌==◌, All, AllPairs, cond, List, [], ◌∷◌, get_or, refl, sym, ap, ap₂, ◌∙◌, arith, subst}
use Rattle.std.specs.List.{sum_by}
use Rattle.std.proofs.lemmas.Bool.{cond_both, eqb-true, eq-eqb}
use Rattle.std.proofs.lemmas.List.Elements.{All-cons, All-head, All-nil, All-tail}
use Rattle.std.proofs.lemmas.List.Sums.{sum_by-cons}
use Rattle.ideal_laws.specs.declared.account.Answer.{Answer}
use Rattle.ideal_laws.specs.declared.account.Answer.TheVariants as answer
use Rattle.ideal_laws.specs.declared.account.Call.{Call}
use Rattle.back_reduce.specs.declared.problem.Problem.{Problem}
use Rattle.pivot_core.specs.Words.{stamp_in}
use Rattle.pivot_core.specs.Runs.{State, IsHeld, claim_at, holder_of}
use Rattle.pivot_core.specs.Calls.{IsAnswered, IsCall, is_won_at}
use Rattle.pivot_core.specs.History.{Replays, ReplaysAfter, answer_after}
use Rattle.pivot_core.proofs.CallLists.{sum_by-none}
use Rattle.pivot_core.proofs.CallsKept.{call_held}
use Rattle.pivot_core.proofs.Counts.{one_if}
use Rattle.pivot_core.proofs.SortedCalls.{IsNotAfter, not_after_stamp}

module _ (problem : Problem) (s : State) where
  -- a call in range that tells what its column holds
  abbrev pub IsTrueCall : Call → Type 0
  IsTrueCall k = IsCall problem s k.seat k.stamp k

  -- what a held column answers
  abbrev lost_at : ℕ → Answer
  lost_at c = answer.Lost (holder_of problem s c) (stamp_in (claim_at problem s c))

  abbrev won_part : ℕ → Call → Answer → ℕ
  won_part c k a = elim a as (λ b. ℕ) [ answer.Won ↦ cond (k.column == c) 1 0 | answer.Lost row stamp ↦ 0 ]

  abbrev after_one : Call → Answer → ℕ → Answer → Answer
  after_one k a c rest = elim a as (λ b. Answer) [ answer.Won ↦ cond (k.column == c) (answer.Lost k.row k.stamp) rest | answer.Lost row stamp ↦ rest ]

  -- a column that was not won is free
  answer_after-free : (ks : List Call) (c : ℕ) → sum_by (is_won_at c) ks ≡ 0 → answer_after ks c ≡ answer.Won
  answer_after-free [] c none = refl
  answer_after-free (k ∷ ks) c none =
      let parts : is_won_at c k + sum_by (is_won_at c) ks ≡ 0 = sym (sum_by-cons (is_won_at c) k ks) ∙ none in
      by_answer (answer_after ks c) (answer_after-free ks c (omega (arith, parts))) k.answer (omega (arith, parts))
    where
      by_answer : (rest : Answer) → rest ≡ answer.Won → (a : Answer) → won_part c k a ≡ 0 → after_one k a c rest ≡ answer.Won
      by_answer rest is answer.Won none = cond_both (k.column == c) _ _ (λ (x : Answer). x ≡ answer.Won)
          (λ on. absurd (omega (arith, none, ap one_if on))) (λ off. is)
      by_answer rest is (answer.Lost row stamp) none = is

  -- what won it stands in one that was
  answer_after-taken : (ks : List Call) (c : ℕ) → All IsTrueCall ks → 0 < sum_by (is_won_at c) ks → answer_after ks c ≡ lost_at c
  answer_after-taken [] c told some = absurd (omega (arith, some))
  answer_after-taken (k ∷ ks) c told some =
      by_answer (answer_after ks c) (answer_after-taken ks c (All-tail IsTrueCall k ks told))
      k.answer (All-head IsTrueCall k ks told).answered (subst (λ (n : ℕ). 0 < n) (sum_by-cons (is_won_at c) k ks) some)
    where
      by_answer : (rest : Answer) → (0 < sum_by (is_won_at c) ks → rest ≡ lost_at c) → (a : Answer) → IsAnswered problem s k a
          → 0 < won_part c k a + sum_by (is_won_at c) ks → after_one k a c rest ≡ lost_at c
      by_answer rest more answer.Won h some = cond_both (k.column == c) _ _ (λ (x : Answer). x ≡ lost_at c)
          (λ on. (let at : lost_at k.column ≡ lost_at c = ap lost_at (eqb-true k.column c on) in ap₂ (λ (r n : ℕ). answer.Lost r n) (sym h.1) (sym h.2) ∙ at))
          (λ off. more (omega (arith, some, ap one_if off)))
      by_answer rest more (answer.Lost row stamp) h some = more (omega (arith, some))

  -- a call with a stamp above that of its column does not win it
  not_won_late : (c : ℕ) (l : Call) → IsTrueCall l → stamp_in (claim_at problem s c) < l.stamp → is_won_at c l ≡ 0
  not_won_late c l h late = by_answer l.answer h.answered
    where
      by_answer : (a : Answer) → IsAnswered problem s l a → won_part c l a ≡ 0
      by_answer answer.Won h = cond_both (l.column == c) _ _ (λ (n : ℕ). n ≡ 0)
          (λ on. (let same : stamp_in (claim_at problem s l.column) ≡ stamp_in (claim_at problem s c) =
          ap (λ (d : ℕ). stamp_in (claim_at problem s d)) (eqb-true l.column c on) in
          absurd (omega (arith, h.2, same, late))))
          (λ off. refl)
      by_answer (answer.Lost row stamp) h = refl

  -- the next of sorted calls has the answer that the object gives
  next_answer : (done : List Call) (k : Call) (ks : List Call) → All IsTrueCall done → All IsTrueCall ks → All (IsNotAfter k) ks
      → (a : Answer) → IsAnswered problem s k a → sum_by (is_won_at k.column) done +
      (won_part k.column k a + sum_by (is_won_at k.column) ks) ≡ 1 → a ≡ answer_after done k.column
  next_answer done k ks before later follow answer.Won h once =
      sym (answer_after-free done k.column (omega (arith, once, ap one_if (eq-eqb k.column k.column refl))))
  next_answer done k ks before later follow (answer.Lost row stamp) h once =
      let none : sum_by (is_won_at k.column) ks ≡ 0 = sum_by-none (is_won_at k.column) ks
      (λ j d within. not_won_late k.column (get_or ks j d) (later j d within)
      (omega (arith, h.2, h.3, not_after_stamp k (get_or ks j d) (follow j d within)))) in
      ap₂ (λ (r n : ℕ). answer.Lost r n) (sym h.1) (sym h.2) ∙ sym (answer_after-taken done k.column before (omega (arith, once, none)))

  replays_after : (done rest : List Call) → All IsTrueCall done → All IsTrueCall rest → AllPairs IsNotAfter rest
      → ((c : ℕ) → IsHeld problem s c → sum_by (is_won_at c) done + sum_by (is_won_at c) rest ≡ 1) → ReplaysAfter done rest
  replays_after done [] before told sorted once = tt
  replays_after done (k ∷ ks) before told sorted once =
      let one : IsTrueCall k = All-head IsTrueCall k ks told in
      let later : All IsTrueCall ks = All-tail IsTrueCall k ks told in (
        next_answer done k ks before later (λ j d within. sorted zero (suc j) d (omega arith) (omega (arith, within))) k.answer one.answered
            (ap (λ (n : ℕ). sum_by (is_won_at k.column) done + n) (sym (sum_by-cons (is_won_at k.column) k ks))
            ∙ once k.column (call_held problem s k.seat k.stamp k one)),
        replays_after (k ∷ done) ks (All-cons IsTrueCall k done one before) later
            (λ i j d lt within. sorted (suc i) (suc j) d (omega (arith, lt)) (omega (arith, within)))
            (λ c held. omega (arith, once c held, sum_by-cons (is_won_at c) k ks, sum_by-cons (is_won_at c) k done)),
      )

  -- calls that tell what their columns hold, in order, with each held column won once
  pub replays_sorted : (calls : List Call) → All IsTrueCall calls → AllPairs IsNotAfter calls →
      ((c : ℕ) → IsHeld problem s c → sum_by (is_won_at c) calls ≡ 1) → Replays calls
  replays_sorted calls told sorted once = replays_after [] calls (All-nil IsTrueCall) told sorted (λ c held. omega (arith, once c held))
