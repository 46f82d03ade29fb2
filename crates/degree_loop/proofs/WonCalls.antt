-- Calls that won.
use Rattle.std.proofs.Common.{◌≡◌, ◌≢◌, ◌<◌, ◌==◌, ℕ, suc, true, false, Bool, All, AllPairs, Contains, List, [], ◌∷◌, cond, length, get_or, refl, sym}
use Rattle.std.proofs.Common.{ap, ◌∙◌, arith, inl, inr}
use Rattle.std.specs.List.{sum_by}
use Rattle.std.proofs.lemmas.Bool.{cases_eq, eqb-true, eq-eqb}
use Rattle.std.proofs.lemmas.List.Elements.{All-cons, All-nil}
use Rattle.std.proofs.lemmas.List.Kept.{AllPairs-cons}
use Rattle.std.proofs.lemmas.List.Sums.{sum_by-cons}
use Rattle.words.proofs.Members.{AllPairs-nil, Contains-cases, Contains-first, Contains-more, Contains-none}
use Rattle.ideal_laws.specs.declared.account.Answer.{Answer}
use Rattle.ideal_laws.specs.declared.account.Answer.TheVariants as answer
use Rattle.ideal_laws.specs.declared.account.Call.{Call}
use Rattle.pivot_core.specs.Calls.{is_won_at}
use Rattle.pivot_core.specs.History.{ReplaysAfter, answer_after}
use Rattle.degree_loop.specs.ClaimHistory.{IsWon}

-- a sum that is not 0 has a part that is not
pub part_of_sum : {X : Type 0} (f : X → ℕ) (xs : List X) → 0 < sum_by f xs → (i : ℕ) × (i < length xs) × ((d : X) → 0 < f (get_or xs i d))
part_of_sum f [] some = absurd (omega (arith, some))
part_of_sum {X} f (x ∷ xs) some = elim (cases_eq (f x) 0) [
  | inr other ↦ (0, omega arith, λ d. omega (arith, other))
  | inl none ↦ let q = part_of_sum f xs (omega (arith, some, none, sum_by-cons f x xs)) in (suc q.0, omega (arith, q.1), q.2)
]

-- what counts as won was won there
pub won_from : (c : ℕ) (k : Call) → 0 < is_won_at c k → IsWon k × (k.column ≡ c)
won_from c k some = by_answer k.answer some
  where
    by_test : (b : Bool) → (k.column == c) ≡ b → 0 < cond b 1 0 → k.column ≡ c
    by_test true on h = eqb-true k.column c on
    by_test false on h = absurd (omega (arith, h))

    by_answer : (a : Answer) → 0 < (elim a as (λ b. ℕ) [ answer.Won ↦ cond (k.column == c) 1 0 | answer.Lost row stamp ↦ 0 ]) →
        (a ≡ answer.Won) × (k.column ≡ c)
    by_answer answer.Won h = (refl, by_test (k.column == c) refl h)
    by_answer (answer.Lost row stamp) h = absurd (omega (arith, h))

-- a column that was won is not free
taken : (done : List Call) (k : Call) → Contains done k → IsWon k → answer_after done k.column ≡ answer.Won → ⊥
taken [] k there won e = Contains-none k there
taken (l ∷ done) k there won e = elim (Contains-cases l done k there) [
  | inl is ↦ own is
  | inr rest ↦ by_answer l.answer (k.column) e (λ f. taken done k rest won f)
]
  where
    by_answer : (a : Answer) (c : ℕ) → (elim a as (λ b. Answer) [
      | answer.Won ↦
          cond (l.column == c) (answer.Lost l.row l.stamp) (answer_after done c)
      | answer.Lost row stamp ↦ answer_after done c
    ]) ≡ answer.Won
        → (answer_after done c ≡ answer.Won → ⊥) → ⊥
    by_answer answer.Won c f more = by_test (l.column == c) f more
      where
        by_test : (b : Bool) → cond b (answer.Lost l.row l.stamp) (answer_after done c) ≡ answer.Won → (answer_after done c ≡ answer.Won → ⊥) → ⊥
        by_test true f more = cc f
        by_test false f more = more f
    by_answer (answer.Lost row stamp) c f more = more f

    own : l ≡ k → ⊥
    own is =
        let l_won : l.answer ≡ answer.Won = ap (λ (j : Call). j.answer) is ∙ won in
        let at : (l.column == k.column) ≡ true = ap (λ (j : Call). j.column == k.column) is ∙ eq-eqb k.column k.column refl in
        let lost : answer_after (l ∷ done) k.column ≡ answer.Lost l.row l.stamp =
        ap (λ (a : Answer). elim a as (λ b. Answer) [
          | answer.Won ↦ cond (l.column == k.column) (answer.Lost l.row l.stamp)
              (answer_after done k.column)
          | answer.Lost row stamp ↦ answer_after done k.column
        ]) l_won
        ∙ ap (λ (b : Bool). cond b (answer.Lost l.row l.stamp) (answer_after done k.column)) at in
        let no = sym lost ∙ e in
        cc no

later_apart : (k : Call) → IsWon k → (done ks : List Call) → Contains done k → ReplaysAfter done ks → All (λ l. IsWon l → k.column ≢ l.column) ks
later_apart k won done [] there h = All-nil (λ l. IsWon l → k.column ≢ l.column)
later_apart k won done (l ∷ ks) there h =
    All-cons (λ j. IsWon j → k.column ≢ j.column) l ks (λ l_won same. taken done k there won
    (ap (answer_after done) same ∙ sym h.0 ∙ l_won)) (later_apart k won (l ∷ done) ks (Contains-more l done k there) h.1)

-- in a history no column is won twice
pub won_apart : (done ks : List Call) → ReplaysAfter done ks → AllPairs (λ k l. IsWon k → IsWon l → k.column ≢ l.column) ks
won_apart done [] h = AllPairs-nil (λ (k l : Call). IsWon k → IsWon l → k.column ≢ l.column)
won_apart done (k ∷ ks) h =
    AllPairs-cons (λ j l. IsWon j → IsWon l → j.column ≢ l.column) k ks
    (λ j d within won l_won. later_apart k won (k ∷ done) ks (Contains-first k done) h.1 j d within l_won) (won_apart (k ∷ done) ks h.1)
