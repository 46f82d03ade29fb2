-- Settled rows in the span: every move keeps the clause.
use Rattle.std.proofs.Common.{◌≡◌, inl, inr, ℕ, ◌<◌, ◌≤◌, List, min, set, refl, sym, arith, subst}
use Rattle.std.proofs.lemmas.Bool.{cases_eq}
use Rattle.field_table.specs.Residues.{IsFieldModulus}
use Rattle.linear_algebra.specs.Fields.{Field}
use Rattle.linear_algebra.proofs.Algebra.{IsInSpan-zero}
use Rattle.linear_algebra.proofs.Elimination.{same_span}
use Rattle.back_reduce.specs.declared.problem.Problem.{Problem}
use Rattle.back_reduce.proofs.Vectors.{vec-zero}
use Rattle.back_reduce.proofs.RowLists.{row_is}
use Rattle.pivot_core.specs.declared.view.Phase.{Phase}
use Rattle.pivot_core.specs.declared.sight.Sight.{Sight}
use Rattle.pivot_core.specs.Words.{Spot, counter}
use Rattle.pivot_core.specs.Views.{difference, given_row, lead_at}
use Rattle.pivot_core.specs.Runs.{State, view_at, word_at}
use Rattle.pivot_core.specs.Phases.{HasRow}
use Rattle.pivot_core.specs.Rule.{CurrentModuloHeld, DisjointRows, IsSettled, PublishedPrefix, Ranges, ReadPrefix, SettledInSpan}
use Rattle.pivot_core.proofs.Changes.{IsChange, word_met}
use Rattle.pivot_core.proofs.Effects.{KeepsHeld, counter_cases, keeps_held}
use Rattle.pivot_core.proofs.HeldKept.{won_held, won_row}
use Rattle.pivot_core.proofs.HeldRows.{HeldSpan, Kp, OneHeld, held_in_own_span, spans_grow, vector_of}
use Rattle.pivot_core.proofs.ModuloKept.{left_is_row, same_sizes, seen_in_span}
use Rattle.pivot_core.proofs.ModuloRows.{modulo_grows, modulo_inside, nothing_left, zero_row}
use Rattle.pivot_core.proofs.Moves.{IsDraw, IsEnd, IsLastRead, IsMove, IsSettling, IsWonClaim, given_up, goes_on, draws, ends, looks_free, looks_held}
use Rattle.pivot_core.proofs.Moves.{puts, wins, loses, reads_more, reads_last}
use Rattle.pivot_core.proofs.Rows.{drawn_is, one_row, row_in_phase, row_of_phase, winner}

module _ {problem : Problem} {crew : ℕ} {s t : State} {seat : ℕ} {w : Sight} {a : Spot} {x : ℕ} (c : IsChange problem crew s t seat w a x) where
  abbrev v : Sight
  v = view_at problem s seat

  abbrev old : ℕ
  old = word_at problem s a

  -- a row that is settled, and was not current for the view that moved, was settled
  was_settled : (r : ℕ) → (HasRow v.phase r → ⊥) → IsSettled problem crew t r → IsSettled problem crew s r
  was_settled r own settled i lt has = elim (cases_eq i seat) [
    | inl is ↦ own (subst (λ (j : ℕ). HasRow (view_at problem s j).phase r) is has)
    | inr other ↦ settled i lt (subst (λ (u : Sight). HasRow u.phase r) (sym (c.others i other)) has)
  ]

  -- and is not current for the view after the move
  not_own : (r : ℕ) → IsSettled problem crew t r → HasRow w.phase r → ⊥
  not_own r settled has = settled seat c.below (subst (λ (u : Sight). HasRow u.phase r) (sym c.now) has)

  module _ (modulus : IsFieldModulus problem.modulus) (ranges : Ranges problem crew s) (keeps : KeepsHeld problem s t)
      (h : SettledInSpan problem crew s) (modulo : CurrentModuloHeld problem crew s) where
    abbrev Inside : ℕ → Type 0
    Inside r = HeldSpan problem modulus t (vector_of problem modulus (given_row problem r))

    -- a row that was settled
    still_inside : (r : ℕ) → r < min (word_at problem s counter) problem.n → (HasRow v.phase r → ⊥) → IsSettled problem crew t r → Inside r
    still_inside r lt own settled = spans_grow problem modulus s t keeps (vector_of problem modulus (given_row problem r))
        (h modulus r lt (was_settled r own settled))

    -- a row of zeros
    zero_inside : (r : ℕ) → r < problem.n → problem.m ≤ lead_at (given_row problem r) → Inside r
    zero_inside r lt past =
        let k : Field = Kp problem modulus in
        same_span k ℕ (OneHeld problem modulus t) (λ d. k.zero) (vector_of problem modulus (given_row problem r))
        (λ d. sym (vec-zero problem.modulus modulus (given_row problem r) d
        (zero_row problem.m (given_row problem r) (row_is problem r lt).size past d)))
        (IsInSpan-zero k ℕ (OneHeld problem modulus t))

    -- a move by which a row stays current
    stays : {f g : Phase} → v.phase ≡ f → w.phase ≡ g → ((r : ℕ) → HasRow f r → HasRow g r) →
        word_at problem t counter ≡ word_at problem s counter → (r : ℕ) → r < min (word_at problem t counter) problem.n →
        IsSettled problem crew t r → Inside r
    stays is now rows same r lt settled =
        still_inside r (omega (arith, lt, same)) (λ has. not_own r settled (row_of_phase r now (rows r (row_in_phase r is has)))) settled

    draw_inside : IsDraw problem v old w a x → (r : ℕ) → r < min (word_at problem t counter) problem.n → IsSettled problem crew t r → Inside r
    draw_inside m r lt settled = elim (cases_eq r old) [
      | inr other ↦ still_inside r (omega (
        arith,
        lt,
        other,
        (drawn_is c m).0,
        (drawn_is c m).1,
      )) (row_in_phase r m.was) settled
      | inl is ↦ subst Inside (sym is) (by_settling (subst (IsSettled problem crew t) is settled) m.settling)
    ]
      where
        by_settling : IsSettled problem crew t old → IsSettling problem (given_row problem old) old w → Inside old
        by_settling own (goes_on within now current seen) = absurd (not_own old own (row_of_phase old now refl))
        by_settling own (given_up past now current seen) = zero_inside old m.some past

    won_inside : PublishedPrefix problem crew s → IsWonClaim problem v old w a x → word_at problem t counter ≡ word_at problem s counter →
        (r : ℕ) → r < min (word_at problem t counter) problem.n → IsSettled problem crew t r → Inside r
    won_inside published m same r lt settled = elim (cases_eq r m.row) [
      | inr other ↦ still_inside r (omega (arith, lt, same)) (λ has. other (one_row v.phase r m.row has (winner problem v old w a x m))) settled
      | inl is ↦ subst Inside (sym is) (modulo_inside problem modulus t (given_row problem m.row) v.current
          (modulo_grows problem modulus s t keeps (given_row problem m.row) v.current
          (modulo modulus seat m.row c.below (winner problem v old w a x m)))
          (subst (λ (row : List ℕ). HeldSpan problem modulus t (vector_of problem modulus row))
          (won_row c ranges published m)
          (held_in_own_span problem modulus t m.column (won_held c ranges published m))))
    ]

    read_inside : ReadPrefix problem crew s → IsLastRead problem v old w a x → word_at problem t counter ≡ word_at problem s counter →
        (r : ℕ) → r < min (word_at problem t counter) problem.n → IsSettled problem crew t r → Inside r
    read_inside read m same r lt settled = elim (cases_eq r m.row) [
      | inr other ↦ still_inside r (omega (arith, lt, same)) (λ has. other
          (sym (row_in_phase r m.was has))) settled
      | inl is ↦ subst Inside (sym is) (by_settling (subst (IsSettled problem crew t) is settled) m.settling)
    ]
      where
        by_settling : IsSettled problem crew t m.row → IsSettling problem (difference problem.modulus v.current (set v.seen m.at old)) m.row w → Inside m.row
        by_settling own (goes_on within now current seen) = absurd (not_own m.row own (row_of_phase m.row now refl))
        by_settling own (given_up past now current seen) =
            spans_grow problem modulus s t keeps (vector_of problem modulus (given_row problem m.row))
            (modulo_inside problem modulus s (given_row problem m.row) v.current
            (modulo modulus seat m.row c.below (row_of_phase m.row m.was refl))
            (nothing_left problem modulus v.current (set v.seen m.at old) (difference problem.modulus v.current (set v.seen m.at old))
            (same_sizes c modulus ranges read m) refl s problem.m
            (left_is_row c modulus ranges read m).size past (seen_in_span c modulus ranges read m)))

    end_inside : IsEnd problem v old w a x → (r : ℕ) → r < min (word_at problem t counter) problem.n → IsSettled problem crew t r → Inside r
    end_inside m r lt settled =
        let met : word_at problem s counter ≡ old = word_met c m.spot in
        still_inside r (omega (arith, lt, m.none, met)) (row_in_phase r m.was) settled

    each_inside : ReadPrefix problem crew s → PublishedPrefix problem crew s → IsMove problem v old w a x → (r : ℕ) →
        r < min (word_at problem t counter) problem.n → IsSettled problem crew t r → Inside r
    each_inside read published move = elim (counter_cases c move) [
      | inl (inl m) ↦ draw_inside m
      | inl (inr m) ↦ end_inside m
      | inr same ↦ by_move move same
    ]
      where
        by_move : IsMove problem v old w a x → word_at problem t counter ≡ word_at problem s counter → (r : ℕ) →
            r < min (word_at problem t counter) problem.n → IsSettled problem crew t r → Inside r
        by_move (draws m) same = draw_inside m
        by_move (ends m) same = end_inside m
        by_move (looks_free m) same = stays m.was m.now (λ r has. has) same
        by_move (looks_held m) same = stays m.was m.now (λ r has. has) same
        by_move (puts m) same = elim m.now [
          | inl more ↦ stays m.was more.1 (λ r has. has) same
          | inr last ↦ stays m.was last.1 (λ r has. has) same
        ]
        by_move (wins m) same = won_inside published m same
        by_move (loses m) same = stays m.was m.now (λ r has. has) same
        by_move (reads_more m) same = stays m.was m.now (λ r has. has) same
        by_move (reads_last m) same = read_inside read m same

  -- where each drawn row that is not current is in the span of the held rows, so it is after a move
  pub settled_in_span_kept : Ranges problem crew s → DisjointRows problem crew s → PublishedPrefix problem crew s →
      ReadPrefix problem crew s → CurrentModuloHeld problem crew s → SettledInSpan problem crew s → IsMove problem v old w a x →
      SettledInSpan problem crew t
  settled_in_span_kept ranges apart published read modulo h move modulus =
      each_inside modulus ranges (keeps_held c apart move) h modulo read published move
