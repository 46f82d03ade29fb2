-- Read prefix: every move keeps the clause.
use Rattle.std.proofs.Common.{◌≡◌, ◌≢◌, inl, inr, ℕ, ◌+◌, ◌<◌, ◌≤◌, List, length, get_or, set, refl, sym, ap, ◌∙◌, arith, subst}
use Rattle.std.proofs.lemmas.Bool.{cases_eq}
use Rattle.std.proofs.lemmas.List.{get_or-set_same, get_or-set_other}
use Rattle.back_reduce.specs.declared.problem.Problem.{Problem}
use Rattle.pivot_core.specs.declared.view.Phase.{Phase}
use Rattle.pivot_core.specs.declared.view.Phase.TheVariants as phase
use Rattle.pivot_core.specs.declared.sight.Sight.{Sight}
use Rattle.pivot_core.specs.Words.{Spot, claim_of, row_in, row_word}
use Rattle.pivot_core.specs.Views.{zeros}
use Rattle.pivot_core.specs.Runs.{State, IsHeld, claim_at, held_row, holder_of, view_at, word_at}
use Rattle.pivot_core.specs.Rule.{DisjointRows, IsRead, Ranges, ReadPrefix}
use Rattle.pivot_core.proofs.Changes.{IsChange, each_view, numbers_at, word_met}
use Rattle.pivot_core.proofs.Effects.{KeepsHeld, held_after, held_row_after, keeps_held}
use Rattle.pivot_core.proofs.HeldRows.{held_row-at, values-before, values-from}
use Rattle.pivot_core.proofs.Moves.{IsMove, IsSettling, given_up, goes_on, draws, ends, looks_free, looks_held, puts, wins, loses, reads_more, reads_last}
use Rattle.pivot_core.proofs.Zeros.{zeros-at}

-- a held row that was read stays as it is
pub still_read : (problem : Problem) (s t : State) → KeepsHeld problem s t → (f : Phase) (seen : List ℕ) → IsRead problem s f seen → IsRead problem t f seen
still_read problem s t k phase.Fresh seen h = tt
still_read problem s t k (phase.Looking row column) seen h = tt
still_read problem s t k (phase.Putting row column at) seen h = tt
still_read problem s t k (phase.Claiming row column) seen h = tt
still_read problem s t k (phase.Reading row column holder at) seen h = (
  held_after problem s t column k h.0,
  ap row_in (k.claims column h.0) ∙ h.1,
  λ j lt. h.2 j lt ∙ ap (λ (r : List ℕ). get_or r j 0) (sym (held_row_after problem s t column k h.0)),
  h.3,
)
still_read problem s t k phase.Ended seen h = tt

settled_read : (problem : Problem) (t : State) (y : List ℕ) (row : ℕ) (w : Sight) → IsSettling problem y row w → IsRead problem t w.phase w.seen
settled_read problem t y row w (goes_on within now current seen) = subst (λ (f : Phase). IsRead problem t f w.seen) (sym now) tt
settled_read problem t y row w (given_up past now current seen) = subst (λ (f : Phase). IsRead problem t f w.seen) (sym now) tt

-- a row that begins to read a held column
begins_read : (problem : Problem) (s : State) (row column : ℕ) (seen : List ℕ) → IsHeld problem s column → seen ≡ zeros problem.m →
    IsRead problem s (phase.Reading row column (holder_of problem s column) column) seen
begins_read problem s row column seen h none = (
  h,
  refl,
  λ j lt. ap (λ (xs : List ℕ). get_or xs j 0) none ∙ zeros-at problem.m j
      ∙ sym (held_row-at problem s column j (omega (arith, lt, h.below)) ∙ values-before problem s column j lt),
  λ j from lt. ap (λ (xs : List ℕ). get_or xs j 0) none ∙ zeros-at problem.m j,
)

-- one more word of the held row
reads_one : (problem : Problem) (s : State) (row column holder at old : ℕ) (seen : List ℕ) → column ≤ at → at < problem.m →
    length seen ≡ problem.m → old ≡ word_at problem s (row_word holder at)
    → IsRead problem s (phase.Reading row column holder at) seen → (j : ℕ) → j < at + 1 → get_or (set seen at old) j 0 ≡ get_or (held_row problem s column) j 0
reads_one problem s row column holder at old seen from lt size met h j upto = elim (cases_eq j at) [
  | inl is ↦ ap (λ (k : ℕ). get_or (set seen at old) k 0) is ∙ get_or-set_same seen at old 0 (omega (arith, lt, size)) ∙ met
      ∙ sym (ap (λ (k : ℕ). get_or (held_row problem s column) k 0) is ∙ held_row-at problem s column at lt
      ∙ values-from problem s column at h.0 from ∙ ap (λ (r : ℕ). word_at problem s (row_word r at)) h.1)
  | inr other ↦ get_or-set_other seen at j old 0 other ∙ h.2 j (omega (arith, upto, other))
]

module _ {problem : Problem} {crew : ℕ} {s t : State} {seat : ℕ} {w : Sight} {a : Spot} {x : ℕ} (c : IsChange problem crew s t seat w a x) where
  abbrev v : Sight
  v = view_at problem s seat

  abbrev old : ℕ
  old = word_at problem s a

  module _ (ranges : Ranges problem crew s) (keeps : KeepsHeld problem s t) (was : IsRead problem s v.phase v.seen) where
    now_at : {f : Phase} → w.phase ≡ f → IsRead problem t f w.seen → IsRead problem t w.phase w.seen
    now_at is h = subst (λ (g : Phase). IsRead problem t g w.seen) (sym is) h

    -- a column that was found held
    begins : (row column : ℕ) → column < problem.m → old ≢ 0 → a ≡ claim_of column →
        w.phase ≡ phase.Reading row column (row_in old) column → w.seen ≡ zeros problem.m → IsRead problem t w.phase w.seen
    begins row column lt other spot now seen =
        let met : claim_at problem s column ≡ old = word_met c spot in
        let held : IsHeld problem s column = record { below = lt; some = λ e. other (sym met ∙ e) } in
        now_at now
        (subst (λ (k : ℕ). IsRead problem t (phase.Reading row column k column) w.seen) (ap row_in met)
        (still_read problem s t keeps (phase.Reading row column (holder_of problem s column) column) w.seen
        (begins_read problem s row column w.seen held seen)))

    own_read : IsMove problem v old w a x → IsRead problem t w.phase w.seen
    own_read (draws m) = settled_read problem t _ old w m.settling
    own_read (ends m) = now_at m.now tt
    own_read (looks_free m) = now_at m.now tt
    own_read (looks_held m) =
        let numbers = numbers_at c ranges m.was in
        begins m.row m.column numbers.1 m.held m.spot m.now m.seen
    own_read (puts m) = elim m.now [
      | inl more ↦ now_at more.1 tt
      | inr last ↦ now_at last.1 tt
    ]
    own_read (wins m) = now_at m.now tt
    own_read (loses m) =
        let numbers = numbers_at c ranges m.was in
        begins m.row m.column numbers.1 m.held m.spot m.now m.seen
    own_read (reads_more m) =
        let numbers = numbers_at c ranges m.was in
        let h : IsRead problem s (phase.Reading m.row m.column m.holder m.at) v.seen = subst (λ (f : Phase). IsRead problem s f v.seen) m.was was in
        let more : IsRead problem s (phase.Reading m.row m.column m.holder (m.at + 1)) (set v.seen m.at old) = (
          h.0,
          h.1,
          reads_one problem s m.row m.column m.holder m.at old v.seen numbers.2 numbers.3 (ranges.views seat c.below).seen (ap (word_at problem s) m.spot) h,
          λ j from lt. get_or-set_other v.seen m.at j old 0 (λ e. omega (arith, e, from)) ∙ h.3 j (omega (arith, from)) lt,
        ) in
        now_at m.now
        (subst (IsRead problem t (phase.Reading m.row m.column m.holder (m.at + 1))) (sym m.seen)
        (still_read problem s t keeps (phase.Reading m.row m.column m.holder (m.at + 1)) (set v.seen m.at old) more))
    own_read (reads_last m) = settled_read problem t _ m.row w m.settling

  -- where each view that reads has seen the held row so far, so it has after a move
  pub read_prefix_kept : Ranges problem crew s → DisjointRows problem crew s → ReadPrefix problem crew s → IsMove problem v old w a x →
      ReadPrefix problem crew t
  read_prefix_kept ranges apart h move =
      let keeps = keeps_held c apart move in
      each_view c (λ i u. IsRead problem t u.phase u.seen) (own_read ranges keeps (h seat c.below) move)
      (λ i lt other. still_read problem s t keeps (view_at problem s i).phase (view_at problem s i).seen (h i lt))

  -- when a read ends, what was seen is the held row of the column
  pub whole_read : Ranges problem crew s → ReadPrefix problem crew s → (row column holder at : ℕ) →
      v.phase ≡ phase.Reading row column holder at → a ≡ row_word holder at → problem.m ≤ at + 1
      → IsHeld problem s column × ((j : ℕ) → j < problem.m → get_or (set v.seen at old) j 0 ≡ get_or (held_row problem s column) j 0)
  whole_read ranges h row column holder at is spot last =
      let numbers = numbers_at c ranges is in
      let was : IsRead problem s (phase.Reading row column holder at) v.seen = subst (λ (f : Phase). IsRead problem s f v.seen) is (h seat c.below) in (
        was.0,
        λ j lt. reads_one problem s row column holder at old v.seen numbers.2 numbers.3 (ranges.views seat c.below).seen
            (ap (word_at problem s) spot) was j (omega (arith, lt, last)),
      )
