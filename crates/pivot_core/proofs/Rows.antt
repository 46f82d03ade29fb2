-- The current row of a view before and after a move, and the row that wins.
use Rattle.std.proofs.Common.{◌≡◌, ◌⊎◌, inl, inr, ℕ, ◌+◌, ◌<◌, ◌≤◌, List, refl, sym, ap, ◌∙◌, arith, subst}
use Rattle.std.proofs.lemmas.Bool.{cases_eq}
use Rattle.back_reduce.specs.declared.problem.Problem.{Problem}
use Rattle.pivot_core.specs.declared.view.Phase.{Phase}
use Rattle.pivot_core.specs.declared.view.Phase.TheVariants as phase
use Rattle.pivot_core.specs.declared.sight.Sight.{Sight}
use Rattle.pivot_core.specs.Words.{Spot, counter, row_in, stamp_in}
use Rattle.pivot_core.specs.Views.{given_row}
use Rattle.pivot_core.specs.Runs.{State, claim_at, holder_of, view_at, word_at}
use Rattle.pivot_core.specs.Phases.{HasRow}
use Rattle.pivot_core.specs.Rule.{Ranges}
use Rattle.pivot_core.proofs.Changes.{IsChange, numbers_at, word_left, word_met}
use Rattle.pivot_core.proofs.ClaimWords.{few_rows, row_in-claim_word, stamp_in-claim_word}
use Rattle.pivot_core.proofs.Effects.{counter_cases}
use Rattle.pivot_core.proofs.Moves.{IsDraw, IsMove, IsSettling, IsWonClaim, given_up, goes_on, draws, ends, looks_free, looks_held, puts, wins, loses}
use Rattle.pivot_core.proofs.Moves.{reads_more, reads_last}

-- a current row by its phase, and back
pub row_in_phase : {f g : Phase} (r : ℕ) → f ≡ g → HasRow f r → HasRow g r
row_in_phase r is h = subst (λ (e : Phase). HasRow e r) is h

-- a row that is current in a phase is current in one that equals it
pub row_of_phase : {f g : Phase} (r : ℕ) → f ≡ g → HasRow g r → HasRow f r
row_of_phase r is h = subst (λ (e : Phase). HasRow e r) (sym is) h

-- a view has one current row
pub one_row : (f : Phase) (r q : ℕ) → HasRow f r → HasRow f q → r ≡ q
one_row phase.Fresh r q h k = absurd h
one_row (phase.Looking row column) r q h k = sym h ∙ k
one_row (phase.Putting row column at) r q h k = sym h ∙ k
one_row (phase.Claiming row column) r q h k = sym h ∙ k
one_row (phase.Reading row column holder at) r q h k = sym h ∙ k
one_row phase.Ended r q h k = absurd h

-- a row that is current after a row has settled is this row
pub settled_row : (problem : Problem) (y : List ℕ) (row : ℕ) (w : Sight) → IsSettling problem y row w → (r : ℕ) → HasRow w.phase r → row ≡ r
settled_row problem y row w (goes_on within now current seen) r h = row_in_phase r now h
settled_row problem y row w (given_up past now current seen) r h = absurd (row_in_phase r now h)

module _ (problem : Problem) (v : Sight) (old : ℕ) (w : Sight) (a : Spot) (x : ℕ) where
  -- the current row after a move is the one that was drawn, or was current
  pub own_row : IsMove problem v old w a x → (r : ℕ) → HasRow w.phase r → (IsDraw problem v old w a x × (r ≡ old)) ⊎ HasRow v.phase r
  own_row (draws m) r h = inl (m, sym (settled_row problem (given_row problem old) old w m.settling r h))
  own_row (ends m) r h = absurd (row_in_phase r m.now h)
  own_row (looks_free m) r h = inr (row_of_phase r m.was (row_in_phase r m.now h))
  own_row (looks_held m) r h = inr (row_of_phase r m.was (row_in_phase r m.now h))
  own_row (puts m) r h = elim m.now [
    | inl more ↦ inr (row_of_phase r m.was
        (row_in_phase r more.1 h))
    | inr last ↦ inr (row_of_phase r m.was (row_in_phase r last.1 h))
  ]
  own_row (wins m) r h = absurd (row_in_phase r m.now h)
  own_row (loses m) r h = inr (row_of_phase r m.was (row_in_phase r m.now h))
  own_row (reads_more m) r h = inr (row_of_phase r m.was (row_in_phase r m.now h))
  own_row (reads_last m) r h = inr (row_of_phase r m.was (settled_row problem _ m.row w m.settling r h))

  -- the row that wins was current, and none is after
  pub winner : (m : IsWonClaim problem v old w a x) → HasRow v.phase m.row
  winner m = row_of_phase m.row m.was refl

  -- after a claim that is won the view has no current row
  pub won_none : (m : IsWonClaim problem v old w a x) (r : ℕ) → HasRow w.phase r → ⊥
  won_none m r h = row_in_phase r m.now h

  -- a draw wins nothing
  pub draw_not_won : IsDraw problem v old w a x → IsWonClaim problem v old w a x → ⊥
  draw_not_won d m = row_in_phase m.row d.was (winner m)

module _ {problem : Problem} {crew : ℕ} {s t : State} {seat : ℕ} {w : Sight} {a : Spot} {x : ℕ} (c : IsChange problem crew s t seat w a x) where
  abbrev v : Sight
  v = view_at problem s seat

  abbrev old : ℕ
  old = word_at problem s a

  -- a row that wins is below n, and the column that it wins is below m
  pub won_numbers : Ranges problem crew s → (m : IsWonClaim problem v old w a x) → (m.row < problem.n) × (m.column < problem.m)
  won_numbers r m = numbers_at c r m.was

  -- the claim word of the column that was won
  pub won_word : (m : IsWonClaim problem v old w a x) → claim_at problem t m.column ≡ x
  won_word m = word_left c m.spot

  -- the holder of the column that was won is the row that won it
  pub won_holder : Ranges problem crew s → (m : IsWonClaim problem v old w a x) → holder_of problem t m.column ≡ m.row
  won_holder r m =
      let numbers = won_numbers r m in
      ap row_in (won_word m ∙ m.word) ∙ row_in-claim_word (v.clock + 1) m.row (omega (arith, numbers.0, few_rows problem m.column numbers.1))

  -- the stamp of the column that was won is one more than the winner's clock was
  pub won_stamp : Ranges problem crew s → (m : IsWonClaim problem v old w a x) → stamp_in (claim_at problem t m.column) ≡ v.clock + 1
  won_stamp r m =
      let numbers = won_numbers r m in
      ap stamp_in (won_word m ∙ m.word) ∙ stamp_in-claim_word (v.clock + 1) m.row (omega (arith, numbers.0, few_rows problem m.column numbers.1))

  -- the counter does not fall
  pub counter_rises : IsMove problem v old w a x → word_at problem s counter ≤ word_at problem t counter
  counter_rises move = elim (counter_cases c move) [
    | inl (inl m) ↦ omega (arith, word_met c m.spot, word_left c m.spot, m.word)
    | inl (inr m) ↦ omega (arith, word_met c m.spot, word_left c m.spot, m.word)
    | inr same ↦ omega (arith, same)
  ]

  -- a row that is drawn is the counter before
  pub drawn_is : (m : IsDraw problem v old w a x) → (word_at problem s counter ≡ old) × (word_at problem t counter ≡ old + 1)
  drawn_is m = (word_met c m.spot, word_left c m.spot ∙ m.word)

  -- a current row after the move is the one that was drawn, or was current for the same view, which did not win
  pub row_before : IsMove problem v old w a x → (i r : ℕ) → HasRow (view_at problem t i).phase r
      → (i ≡ seat) × IsDraw problem v old w a x × (r ≡ old) ⊎ HasRow (view_at problem s i).phase r
  row_before move i r h = elim (cases_eq i seat) [
    | inr other ↦ inr (subst (λ (u : Sight). HasRow u.phase r) (c.others i other) h)
    | inl is ↦ elim (own_row problem v old w a x move r (subst (λ (u : Sight). HasRow u.phase r) (ap (view_at problem t) is ∙ c.now) h)) [
      | inl drawn ↦ inl (is, drawn.0, drawn.1)
      | inr was ↦ inr (subst (λ (j : ℕ). HasRow (view_at problem s j).phase r) (sym is) was)
    ]
  ]
