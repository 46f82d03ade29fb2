-- Held rows in the span: every move keeps the clause.
use Rattle.std.proofs.Common.{◌≡◌, inl, inr, ℕ, ◌+◌, ◌<◌, List, get_or, refl, sym, ap, ◌∙◌, subst}
use Rattle.std.proofs.lemmas.Bool.{cases_lt}
use Rattle.std.proofs.lemmas.List.FromFn.{fill_by_all}
use Rattle.field_table.specs.Residues.{IsFieldModulus}
use Rattle.linear_algebra.specs.Fields.{Field}
use Rattle.linear_algebra.proofs.Algebra.{IsInSpan-add, IsInSpan-one, IsInSpan-scaled}
use Rattle.linear_algebra.proofs.Elimination.{same_span}
use Rattle.back_reduce.specs.declared.problem.Problem.{Problem}
use Rattle.back_reduce.specs.Problems.{rows_of}
use Rattle.back_reduce.specs.Rows.{IsInRowSpan, IsRow}
use Rattle.back_reduce.proofs.RowLists.{OneOf, problem_row}
use Rattle.back_reduce.proofs.Vectors.{res}
use Rattle.pivot_core.specs.declared.view.Phase.{Phase}
use Rattle.pivot_core.specs.declared.view.Phase.TheVariants as phase
use Rattle.pivot_core.specs.declared.sight.Sight.{Sight}
use Rattle.pivot_core.specs.Words.{Spot, row_word}
use Rattle.pivot_core.specs.Views.{given_row}
use Rattle.pivot_core.specs.Runs.{State, IsHeld, held_row, values, view_at, word_at}
use Rattle.pivot_core.specs.Rule.{CurrentModuloHeld, DisjointRows, HeldInSpan, IsModulo, PublishedPrefix, Ranges}
use Rattle.pivot_core.proofs.Changes.{IsChange}
use Rattle.pivot_core.proofs.ClaimWords.{claim_word-other}
use Rattle.pivot_core.proofs.Combinations.{res-other, solved}
use Rattle.pivot_core.proofs.Effects.{held_before, held_row_after, keeps_held}
use Rattle.pivot_core.proofs.HeldRows.{Kp, held_within, values-before, values-from, vector_of}
use Rattle.pivot_core.proofs.Moves.{IsMove, IsWonClaim}
use Rattle.pivot_core.proofs.PublishedKept.{IsPublished, published_view}
use Rattle.pivot_core.proofs.Rows.{winner, won_holder, won_numbers, won_word}
use Rattle.pivot_core.proofs.Spots.{row_not_claim}

-- what is left of a row of the problem is in the span of its rows
current_inside : (problem : Problem) (modulus : IsFieldModulus problem.modulus) (s : State) (r : ℕ) (current : List ℕ) → r < problem.n →
    HeldInSpan problem s → IsModulo problem modulus s (given_row problem r) current
    → IsInRowSpan problem.modulus modulus (rows_of problem) (vector_of problem modulus current)
current_inside problem modulus s r current lt held h =
    let k : Field = Kp problem modulus in
    let P = OneOf problem.modulus modulus (rows_of problem) in
    let a : k.F = res problem.modulus modulus h.factor in
    let given = vector_of problem modulus (given_row problem r) in
    same_span k ℕ P (λ c. k.add (k.mul (k.inv a) (given c)) (k.mul (k.neg (k.inv a)) (h.rest c))) (vector_of problem modulus current)
    (λ c. sym (solved k a (given c) (vector_of problem modulus current c) (h.rest c) (res-other problem.modulus modulus h.factor h.some h.residue) (h.sum c)))
    (IsInSpan-add k ℕ P (λ c. k.mul (k.inv a) (given c)) (λ c. k.mul (k.neg (k.inv a)) (h.rest c))
    (IsInSpan-scaled k ℕ P (k.inv a) given (IsInSpan-one k ℕ P given (problem_row problem.modulus modulus problem r lt)))
    (IsInSpan-scaled k ℕ P (k.neg (k.inv a)) h.rest (held_within problem modulus s held h.rest h.inside)))

module _ {problem : Problem} {crew : ℕ} {s t : State} {seat : ℕ} {w : Sight} {a : Spot} {x : ℕ} (c : IsChange problem crew s t seat w a x) where
  abbrev v : Sight
  v = view_at problem s seat

  abbrev old : ℕ
  old = word_at problem s a

  module _ (ranges : Ranges problem crew s) (published : PublishedPrefix problem crew s) (m : IsWonClaim problem v old w a x) where
    -- the column that was won is held
    pub won_held : IsHeld problem t m.column
    won_held = record {
      below = (won_numbers c ranges m).1;
      some =
          λ e. claim_word-other (v.clock + 1) m.row (sym (won_word c m ∙ m.word) ∙ e);
    }

    view_published : IsPublished problem s (phase.Claiming m.row m.column) v.current
    view_published = subst (λ (f : Phase). IsPublished problem s f v.current) m.was (published_view problem crew s published seat c.below)

    won_place : (j : ℕ) → j < problem.m → get_or v.current j 0 ≡ values problem t m.column j
    won_place j lt = elim (cases_lt j m.column) [
      | inl before ↦ view_published.before m.row j refl before ∙ sym (values-before problem t m.column j before)
      | inr from ↦ sym (
          values-from problem t m.column j won_held from
          ∙ ap (λ (r : ℕ). word_at problem t (row_word r j)) (won_holder c ranges m)
          ∙ c.words (row_word m.row j) ((won_numbers c ranges m).0, lt) (λ e. row_not_claim m.row j m.column (e ∙ m.spot))
          ∙ view_published.published m.row j refl from lt)
    ]

    -- by the row that was current
    pub won_row : held_row problem t m.column ≡ v.current
    won_row = sym (fill_by_all (values problem t m.column) v.current problem.m 0 (view_published.residues m.row refl).size won_place)

    -- the row that wins a column has as many entries as there are columns, all residues
    pub won_is_row : IsRow problem.modulus problem.m v.current
    won_is_row = view_published.residues m.row refl

    -- the row that wins a column is 1 there
    pub won_one : get_or v.current m.column 0 ≡ 1
    won_one = view_published.one m.row refl

  -- where held rows are of residues, 1 at their columns, and in the span of the problem's rows, so they are after a move
  pub held_in_span_kept : Ranges problem crew s → DisjointRows problem crew s → PublishedPrefix problem crew s →
      CurrentModuloHeld problem crew s → HeldInSpan problem s → IsMove problem v old w a x → HeldInSpan problem t
  held_in_span_kept ranges apart published modulo h move = record {
    residues = λ d held. elim (held_before c move d held) [
      | inl won ↦ subst (λ (e : ℕ). IsRow problem.modulus problem.m (held_row problem t e)) (sym won.1)
          (subst (IsRow problem.modulus problem.m) (sym (won_row ranges published won.0)) (won_is_row ranges published won.0))
      | inr was ↦ subst (IsRow problem.modulus problem.m) (sym (still d was)) (h.residues d was)
    ];
    one = λ d held. elim (held_before c move d held) [
      | inl won ↦ ap (λ (row : List ℕ). get_or row d 0) (ap (held_row problem t) won.1 ∙ won_row ranges published won.0)
          ∙ ap (λ (e : ℕ). get_or v.current e 0) won.1 ∙ won_one ranges published won.0
      | inr was ↦ ap (λ (row : List ℕ). get_or row d 0) (still d was) ∙ h.one d was
    ];
    inside = λ modulus d held. elim (held_before c move d held) [
      | inl won ↦ subst (λ (row : List ℕ). IsInRowSpan problem.modulus modulus (rows_of problem) (vector_of problem modulus row))
          (sym (ap (held_row problem t) won.1 ∙ won_row ranges published won.0))
          (current_inside problem modulus s won.0.row v.current (won_numbers c ranges won.0).0 h
          (modulo modulus seat won.0.row c.below (winner problem v old w a x won.0)))
      | inr was ↦ subst (λ (row : List ℕ). IsInRowSpan problem.modulus modulus (rows_of problem) (vector_of problem modulus row))
          (sym (still d was)) (h.inside modulus d was)
    ];
  }
    where
      still : (d : ℕ) → IsHeld problem s d → held_row problem t d ≡ held_row problem s d
      still d was = held_row_after problem s t d (keeps_held c apart move) was
