-- What a move leaves as it was: the counter, the claim words, the row words, and the held rows.
use Rattle.std.proofs.Common.{◌≡◌, ◌≢◌, ◌⊎◌, inl, inr, ℕ, zero, suc, ◌+◌, ◌<◌, List, ◌∷◌, map, refl, sym, ap, ap₂, ◌∙◌, arith, subst}
use Rattle.pivot_core.proofs.ClaimWords.{value_in-same}
use Rattle.std.specs.List.{range_with_len}
use Rattle.std.proofs.lemmas.Bool.{cases_eq}
use Rattle.back_reduce.specs.declared.problem.Problem.{Problem}
use Rattle.pivot_core.specs.declared.view.Phase.{Phase}
use Rattle.pivot_core.specs.declared.sight.Sight.{Sight}
use Rattle.pivot_core.specs.Words.{Spot, counter, claim_of, row_word, value_in}
use Rattle.pivot_core.specs.Runs.{State, IsHeld, claim_at, held_row, holder_of, values, view_at, word_at, published_at}
use Rattle.pivot_core.specs.Phases.{HasRow}
use Rattle.pivot_core.specs.Rule.{DisjointRows}
use Rattle.pivot_core.proofs.Changes.{IsChange, quiet, word_met}
use Rattle.pivot_core.proofs.Moves.{IsDraw, IsEnd, IsPut, IsWonClaim, IsMove, draws, ends, looks_free, looks_held, puts, wins, loses, reads_more, reads_last}
use Rattle.pivot_core.proofs.Spots.{claim_not_counter, claim_not_row, claims_apart, counter_not_claim, counter_not_row, row_not_claim}
use Rattle.pivot_core.proofs.Spots.{row_not_counter, row_words_apart}

-- held columns stay held, by the same row and stamp, with the same held row
pub record KeepsHeld (problem : Problem) (s t : State) : Type 0 where
  pub claims : (c : ℕ) → IsHeld problem s c → claim_at problem t c ≡ claim_at problem s c
  pub values : (c j : ℕ) → IsHeld problem s c → j < problem.m → values problem t c j ≡ values problem s c j

-- where held rows stay, a held column is held afterwards
pub held_after : (problem : Problem) (s t : State) (c : ℕ) → KeepsHeld problem s t → IsHeld problem s c → IsHeld problem t c
held_after problem s t c k h = record { below = h.below; some = λ e. h.some (sym (k.claims c h) ∙ e) }

-- lists of numbers by functions that agree
pub listed_same : (f g : ℕ → ℕ) (a n : ℕ) → ((j : ℕ) → j < a + n → f j ≡ g j) → map f (range_with_len a n) ≡ map g (range_with_len a n)
listed_same f g a zero h = refl
listed_same f g a (suc n) h = ap₂ (λ (x : ℕ) (xs : List ℕ). x ∷ xs) (h a (omega arith)) (listed_same f g (a + 1) n (λ j lt. h j (omega (arith, lt))))

-- where held rows stay, a held column has the same held row afterwards
pub held_row_after : (problem : Problem) (s t : State) (c : ℕ) → KeepsHeld problem s t → IsHeld problem s c → held_row problem t c ≡ held_row problem s c
held_row_after problem s t c k h = listed_same (values problem t c) (values problem s c) 0 problem.m (λ j lt. k.values c j h (omega (arith, lt)))

module _ {problem : Problem} {crew : ℕ} {s t : State} {seat : ℕ} {w : Sight} {a : Spot} {x : ℕ} (c : IsChange problem crew s t seat w a x) where
  abbrev v : Sight
  v = view_at problem s seat

  abbrev old : ℕ
  old = word_at problem s a

  -- a word elsewhere stays
  elsewhere : (b d : Spot) → a ≡ d → b ≢ d → b ≢ a
  elsewhere b d is other e = other (e ∙ is)

  -- a column is won, or all claim words stay
  pub claims_cases : IsMove problem v old w a x → IsWonClaim problem v old w a x ⊎ ((d : ℕ) → d < problem.m → claim_at problem t d ≡ claim_at problem s d)
  claims_cases (draws m) = inr (λ d lt. c.words (claim_of d) lt (elsewhere (claim_of d) counter m.spot (claim_not_counter d)))
  claims_cases (ends m) = inr (λ d lt. c.words (claim_of d) lt (elsewhere (claim_of d) counter m.spot (claim_not_counter d)))
  claims_cases (looks_free m) = inr (λ d lt. quiet c m.word (claim_of d) lt)
  claims_cases (looks_held m) = inr (λ d lt. quiet c m.word (claim_of d) lt)
  claims_cases (puts m) = inr (λ d lt. c.words (claim_of d) lt (elsewhere (claim_of d) (row_word m.row m.at) m.spot (claim_not_row d m.row m.at)))
  claims_cases (wins m) = inl m
  claims_cases (loses m) = inr (λ d lt. quiet c m.word (claim_of d) lt)
  claims_cases (reads_more m) = inr (λ d lt. quiet c m.word (claim_of d) lt)
  claims_cases (reads_last m) = inr (λ d lt. quiet c m.word (claim_of d) lt)

  -- a row word is put, or all row words stay
  pub rows_cases : IsMove problem v old w a x → IsPut problem v old w a x
      ⊎ ((r j : ℕ) → r < problem.n → j < problem.m → word_at problem t (row_word r j) ≡ word_at problem s (row_word r j))
  rows_cases (draws m) = inr (λ r j lr lj. c.words (row_word r j) (lr, lj) (elsewhere (row_word r j) counter m.spot (row_not_counter r j)))
  rows_cases (ends m) = inr (λ r j lr lj. c.words (row_word r j) (lr, lj) (elsewhere (row_word r j) counter m.spot (row_not_counter r j)))
  rows_cases (looks_free m) = inr (λ r j lr lj. quiet c m.word (row_word r j) (lr, lj))
  rows_cases (looks_held m) = inr (λ r j lr lj. quiet c m.word (row_word r j) (lr, lj))
  rows_cases (puts m) = inl m
  rows_cases (wins m) = inr (λ r j lr lj. c.words (row_word r j) (lr, lj) (elsewhere (row_word r j) (claim_of m.column) m.spot (row_not_claim r j m.column)))
  rows_cases (loses m) = inr (λ r j lr lj. quiet c m.word (row_word r j) (lr, lj))
  rows_cases (reads_more m) = inr (λ r j lr lj. quiet c m.word (row_word r j) (lr, lj))
  rows_cases (reads_last m) = inr (λ r j lr lj. quiet c m.word (row_word r j) (lr, lj))

  -- a row is drawn, or the view ends, or the counter stays
  pub counter_cases : IsMove problem v old w a x → (IsDraw problem v old w a x ⊎ IsEnd problem v old w a x)
      ⊎ (word_at problem t counter ≡ word_at problem s counter)
  counter_cases (draws m) = inl (inl m)
  counter_cases (ends m) = inl (inr m)
  counter_cases (looks_free m) = inr (quiet c m.word counter tt)
  counter_cases (looks_held m) = inr (quiet c m.word counter tt)
  counter_cases (puts m) = inr (c.words counter tt (elsewhere counter (row_word m.row m.at) m.spot (counter_not_row m.row m.at)))
  counter_cases (wins m) = inr (c.words counter tt (elsewhere counter (claim_of m.column) m.spot (counter_not_claim m.column)))
  counter_cases (loses m) = inr (quiet c m.word counter tt)
  counter_cases (reads_more m) = inr (quiet c m.word counter tt)
  counter_cases (reads_last m) = inr (quiet c m.word counter tt)

  -- where a column is won, the others keep their claim words
  pub won_elsewhere : (m : IsWonClaim problem v old w a x) (d : ℕ) → d < problem.m → d ≢ m.column → claim_at problem t d ≡ claim_at problem s d
  won_elsewhere m d lt other = c.words (claim_of d) lt (elsewhere (claim_of d) (claim_of m.column) m.spot (claims_apart d m.column other))

  -- a won column was free
  pub won_free : (m : IsWonClaim problem v old w a x) → claim_at problem s m.column ≡ 0
  won_free m = word_met c m.spot ∙ m.free

  -- a column that is held after a move is the one that was won, or was held
  pub held_before : IsMove problem v old w a x → (d : ℕ) → IsHeld problem t d → ((m : IsWonClaim problem v old w a x) × (d ≡ m.column)) ⊎ IsHeld problem s d
  held_before move d h = elim (claims_cases move) [
    | inr stay ↦ inr (record { below = h.below; some = λ e. h.some (stay d h.below ∙ e) })
    | inl m ↦ elim (cases_eq d m.column) [
      | inl is ↦ inl (m, is)
      | inr other ↦ inr (record { below = h.below; some = λ e. h.some (won_elsewhere m d h.below other ∙ e) })
    ]
  ]

  same_claims : IsMove problem v old w a x → (d : ℕ) → IsHeld problem s d → claim_at problem t d ≡ claim_at problem s d
  same_claims move d h = elim (claims_cases move) [
    | inr stay ↦ stay d h.below
    | inl m ↦ won_elsewhere m d h.below (λ is. h.some (ap (claim_at problem s) is ∙ won_free m))
  ]

  -- the row words of holders stay
  same_rows : DisjointRows problem crew s → IsMove problem v old w a x → (d j : ℕ) → IsHeld problem s d → j < problem.m →
      word_at problem t (row_word (holder_of problem s d) j) ≡ word_at problem s (row_word (holder_of problem s d) j)
  same_rows apart move d j h lt =
      let drawn : holder_of problem s d < problem.n = omega (arith, apart.holders_drawn d h) in
      elim (rows_cases move) [
        | inr stay ↦ stay (holder_of problem s d) j drawn lt
        | inl m ↦ c.words (row_word (holder_of problem s d) j) (drawn, lt)
            (elsewhere (row_word (holder_of problem s d) j) (row_word m.row m.at) m.spot (row_words_apart (holder_of problem s d) m.row j m.at
            (λ is. apart.both_apart seat d c.below h (subst (λ (f : Phase). HasRow f (holder_of problem s d)) (sym m.was) (sym is)))))
      ]

  -- where no row is in two places, a move leaves each held column held by the same row and stamp, with the same held row
  pub keeps_held : DisjointRows problem crew s → IsMove problem v old w a x → KeepsHeld problem s t
  keeps_held apart move = record {
    claims = same_claims move;
    values = λ d j h lt.
        ap (λ (k : ℕ). value_in k (published_at problem t) d j) (same_claims move d h)
        ∙ value_in-same (claim_at problem s d) (published_at problem t) (published_at problem s) d j (λ some. same_rows apart move d j h lt);
  }
