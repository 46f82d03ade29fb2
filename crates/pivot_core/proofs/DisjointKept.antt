-- Disjoint rows: every move keeps the clause.
use Rattle.std.proofs.Common.{◌≡◌, ◌⊎◌, inl, inr, ℕ, ◌<◌, ◌≤◌, min, sym, ap, ◌∙◌, arith, subst}
use Rattle.std.proofs.lemmas.Bool.{cases_eq}
use Rattle.back_reduce.specs.declared.problem.Problem.{Problem}
use Rattle.pivot_core.specs.declared.sight.Sight.{Sight}
use Rattle.pivot_core.specs.Words.{Spot, counter, row_in}
use Rattle.pivot_core.specs.Runs.{State, IsHeld, holder_of, view_at, word_at}
use Rattle.pivot_core.specs.Phases.{HasRow}
use Rattle.pivot_core.specs.Rule.{DisjointRows, Ranges}
use Rattle.pivot_core.proofs.Changes.{IsChange}
use Rattle.pivot_core.proofs.Effects.{held_before, keeps_held}
use Rattle.pivot_core.proofs.Moves.{IsDraw, IsMove, IsWonClaim}
use Rattle.pivot_core.proofs.Spots.{same_column}
use Rattle.pivot_core.proofs.Rows.{counter_rises, drawn_is, row_before, winner, won_holder, won_none}

module _ {problem : Problem} {crew : ℕ} {s t : State} {seat : ℕ} {w : Sight} {a : Spot} {x : ℕ} (c : IsChange problem crew s t seat w a x) where
  abbrev v : Sight
  v = view_at problem s seat

  abbrev old : ℕ
  old = word_at problem s a

  module _ (ranges : Ranges problem crew s) (d : DisjointRows problem crew s) (move : IsMove problem v old w a x) where
    -- the holder of a held column is the winner, or was its holder
    data IsHolder (e : ℕ) : Type 0 where
      won : (m : IsWonClaim problem v old w a x) → e ≡ m.column → holder_of problem t e ≡ m.row → IsHolder e
      held : IsHeld problem s e → holder_of problem t e ≡ holder_of problem s e → IsHolder e

    holder_before : (e : ℕ) → IsHeld problem t e → IsHolder e
    holder_before e h = elim (held_before c move e h) [
      | inl here ↦ won here.0 here.1 (ap (holder_of problem t) here.1 ∙ won_holder c ranges here.0)
      | inr there ↦ held there (ap row_in ((keeps_held c d move).claims e there))
    ]

    rises : word_at problem s counter ≤ word_at problem t counter
    rises = counter_rises c move

    drawn_row : (i r : ℕ) → i < crew → (i ≡ seat) × IsDraw problem v old w a x × (r ≡ old) ⊎ HasRow (view_at problem s i).phase r →
        r < min (word_at problem t counter) problem.n
    drawn_row i r lt (inl here) = omega (arith, here.2, here.1.some, (drawn_is c here.1).1)
    drawn_row i r lt (inr there) = omega (arith, d.drawn i r lt there, rises)

    drawn_holder : (e : ℕ) → IsHolder e → holder_of problem t e < min (word_at problem t counter) problem.n
    drawn_holder e (won m is same) = omega (arith, same, d.drawn seat m.row c.below (winner problem v old w a x m), rises)
    drawn_holder e (held there same) = omega (arith, same, d.holders_drawn e there, rises)

    views_still_apart : (i j r : ℕ) → i < crew → j < crew → (i ≡ seat) × IsDraw problem v old w a x × (r ≡ old) ⊎ HasRow (view_at problem s i).phase r
        → (j ≡ seat) × IsDraw problem v old w a x × (r ≡ old) ⊎ HasRow (view_at problem s j).phase r → i ≡ j
    views_still_apart i j r li lj (inl here) (inl here') = here.0 ∙ sym here'.0
    views_still_apart i j r li lj (inl here) (inr there') = absurd (omega (arith, d.drawn j r lj there', here.2, (drawn_is c here.1).0))
    views_still_apart i j r li lj (inr there) (inl here') = absurd (omega (arith, d.drawn i r li there, here'.2, (drawn_is c here'.1).0))
    views_still_apart i j r li lj (inr there) (inr there') = d.views_apart i j r li lj there there'

    holders_still_apart : (e f : ℕ) → IsHolder e → IsHolder f → holder_of problem t e ≡ holder_of problem t f → e ≡ f
    holders_still_apart e f (won m is same) (won m' is' same') eq = is ∙ same_column m.column m'.column (sym m.spot ∙ m'.spot) ∙ sym is'
    holders_still_apart e f (won m is same) (held there same') eq =
        absurd (d.both_apart seat f c.below there (subst (HasRow v.phase) (sym same ∙ eq ∙ same') (winner problem v old w a x m)))
    holders_still_apart e f (held there same) (won m is same') eq =
        absurd (d.both_apart seat e c.below there (subst (HasRow v.phase) (sym same' ∙ sym eq ∙ same) (winner problem v old w a x m)))
    holders_still_apart e f (held there same) (held there' same') eq = d.holders_apart e f there there' (sym same ∙ eq ∙ same')

    both_still_apart : (i e : ℕ) → i < crew → IsHolder e → HasRow (view_at problem t i).phase (holder_of problem t e) → ⊥
    both_still_apart i e lt (won m is same) h = elim (cases_eq i seat) [
      | inl own ↦ won_none problem v old w a x m (holder_of problem t e)
          (subst (λ (u : Sight). HasRow u.phase (holder_of problem t e)) (ap (view_at problem t) own ∙ c.now) h)
      | inr other ↦ other (d.views_apart i seat m.row lt c.below (subst (HasRow (view_at problem s i).phase) same
          (subst (λ (u : Sight). HasRow u.phase (holder_of problem t e)) (c.others i other) h)) (winner problem v old w a x m))
    ]
    both_still_apart i e lt (held there same) h = elim (row_before c move i (holder_of problem t e) h) [
      | inl here ↦ omega (arith, d.holders_drawn e there, here.2, same, (drawn_is c here.1).0)
      | inr was ↦ d.both_apart i e lt there (subst (HasRow (view_at problem s i).phase) same was)
    ]

    -- where current rows and holders are drawn rows, none of them in two places, so they are after a move
    pub disjoint_rows_kept : DisjointRows problem crew t
    disjoint_rows_kept = record {
      drawn = λ i r lt h. drawn_row i r lt (row_before c move i r h);
      holders_drawn = λ e h. drawn_holder e (holder_before e h);
      views_apart = λ i j r li lj h h'. views_still_apart i j r li lj (row_before c move i r h)
          (row_before c move j r h');
      holders_apart = λ e f h h' eq. holders_still_apart e f (holder_before e h) (holder_before f h') eq;
      both_apart = λ i e lt h h'. both_still_apart i e lt (holder_before e h) h';
    }
