-- Current row modulo held rows: every move keeps the clause.
use Rattle.std.proofs.Common.{◌≡◌, inl, inr, ℕ, ◌<◌, List, length, set, refl, sym, ◌∙◌, arith, subst}
use Rattle.std.proofs.lemmas.List.{length-set}
use Rattle.std.proofs.lemmas.List.FromFn.{fill_by_all}
use Rattle.field_table.specs.Residues.{IsFieldModulus}
use Rattle.back_reduce.specs.declared.problem.Problem.{Problem}
use Rattle.back_reduce.specs.Rows.{IsRow}
use Rattle.back_reduce.proofs.RowLists.{row_is}
use Rattle.pivot_core.specs.declared.view.Phase.{Phase}
use Rattle.pivot_core.specs.declared.sight.Sight.{Sight}
use Rattle.pivot_core.specs.Words.{Spot}
use Rattle.pivot_core.specs.Views.{difference, given_row, lead_at, made_monic}
use Rattle.pivot_core.specs.Runs.{State, IsHeld, held_row, values, view_at, word_at}
use Rattle.pivot_core.specs.Phases.{HasRow}
use Rattle.pivot_core.specs.Rule.{CurrentModuloHeld, DisjointRows, IsModulo, Ranges, ReadPrefix}
use Rattle.pivot_core.proofs.Changes.{IsChange, each_view}
use Rattle.pivot_core.proofs.Effects.{KeepsHeld, keeps_held}
use Rattle.pivot_core.proofs.HeldRows.{HeldSpan, held_in_own_span, held_row-at, vector_of}
use Rattle.pivot_core.proofs.ModuloRows.{begins_modulo, loses_row, modulo_grows}
use Rattle.pivot_core.proofs.Moves.{IsLastRead, IsMove, IsSettling, given_up, goes_on, draws, ends, looks_free, looks_held, puts, wins, loses}
use Rattle.pivot_core.proofs.Moves.{reads_more, reads_last}
use Rattle.pivot_core.proofs.PublishedKept.{difference_row, leading}
use Rattle.pivot_core.proofs.ReadKept.{whole_read}
use Rattle.pivot_core.proofs.Rows.{row_in_phase, row_of_phase}

module _ {problem : Problem} {crew : ℕ} {s t : State} {seat : ℕ} {w : Sight} {a : Spot} {x : ℕ} (c : IsChange problem crew s t seat w a x) where
  abbrev v : Sight
  v = view_at problem s seat

  abbrev old : ℕ
  old = word_at problem s a

  module _ (modulus : IsFieldModulus problem.modulus) (ranges : Ranges problem crew s) (read : ReadPrefix problem crew s)
      (m : IsLastRead problem v old w a x) where
    -- what was seen is the held row
    pub seen_held : IsHeld problem s m.column
    seen_held = (whole_read c ranges read m.row m.column m.holder m.at m.was m.spot m.last).0

    seen_size : length (set v.seen m.at old) ≡ problem.m
    seen_size = length-set v.seen m.at old ∙ (ranges.views seat c.below).seen

    seen_is : set v.seen m.at old ≡ held_row problem s m.column
    seen_is = fill_by_all (values problem s m.column) (set v.seen m.at old) problem.m 0 seen_size
        (λ j lt. (whole_read c ranges read m.row m.column m.holder m.at m.was m.spot m.last).1 j lt
        ∙ held_row-at problem s m.column j lt)

    -- what was seen at the end of a read is in the span of the held rows
    pub seen_in_span : HeldSpan problem modulus s (vector_of problem modulus (set v.seen m.at old))
    seen_in_span = subst (λ (row : List ℕ). HeldSpan problem modulus s (vector_of problem modulus row)) (sym seen_is)
        (held_in_own_span problem modulus s m.column seen_held)

    -- the current row has as many entries as what was seen
    pub same_sizes : length v.current ≡ length (set v.seen m.at old)
    same_sizes = (ranges.views seat c.below).current ∙ sym seen_size

    -- what is left is a row
    pub left_is_row : IsRow problem.modulus problem.m (difference problem.modulus v.current (set v.seen m.at old))
    left_is_row = difference_row problem.modulus problem.m v.current (set v.seen m.at old) (omega (arith, modulus.two_or_more))
        (ranges.views seat c.below).current seen_size

  -- the clause for a view
  abbrev IsOwnModulo : IsFieldModulus problem.modulus → State → Sight → Type 0
  IsOwnModulo modulus u z = (r : ℕ) → HasRow z.phase r → IsModulo problem modulus u (given_row problem r) z.current

  module _ (modulus : IsFieldModulus problem.modulus) (ranges : Ranges problem crew s) (read : ReadPrefix problem crew s)
      (keeps : KeepsHeld problem s t) (was : IsOwnModulo modulus s v) where
    -- a row that stays current, as it is
    same_row : {f g : Phase} → v.phase ≡ f → w.phase ≡ g → ((r : ℕ) → HasRow g r → HasRow f r) → w.current ≡ v.current → IsOwnModulo modulus t w
    same_row is now rows current r has =
        subst (IsModulo problem modulus t (given_row problem r)) (sym current)
        (modulo_grows problem modulus s t keeps (given_row problem r) v.current
        (was r (row_of_phase r is (rows r (row_in_phase r now has)))))

    -- a row that goes on as y
    settled_modulo : (y : List ℕ) (row : ℕ) → IsSettling problem y row w →
        (lead_at y < problem.m → IsModulo problem modulus t (given_row problem row) (made_monic problem.modulus y)) →
        IsOwnModulo modulus t w
    settled_modulo y row (goes_on within now current seen) h r has =
        subst (IsModulo problem modulus t (given_row problem r)) (sym current)
        (subst (λ (q : ℕ). IsModulo problem modulus t (given_row problem q) (made_monic problem.modulus y))
        (row_in_phase r now has) (h within))
    settled_modulo y row (given_up past now current seen) h r has = absurd (row_in_phase r now has)

    own_modulo : IsMove problem v old w a x → IsOwnModulo modulus t w
    own_modulo (draws m) = settled_modulo (given_row problem old) old m.settling (λ within.
        (let entry = leading problem modulus (given_row problem old) (row_is problem old m.some) within in
        begins_modulo problem modulus t (given_row problem old) entry.0 entry.1))
    own_modulo (ends m) = λ r has. absurd (row_in_phase r m.now has)
    own_modulo (looks_free m) = same_row m.was m.now (λ r has. has) m.same.current
    own_modulo (looks_held m) = same_row m.was m.now (λ r has. has) m.current
    own_modulo (puts m) = elim m.now [
      | inl more ↦ same_row m.was more.1 (λ r has. has) m.same.current
      | inr last ↦ same_row m.was last.1 (λ r has. has) m.same.current
    ]
    own_modulo (wins m) = λ r has. absurd (row_in_phase r m.now has)
    own_modulo (loses m) = same_row m.was m.now (λ r has. has) m.current
    own_modulo (reads_more m) = same_row m.was m.now (λ r has. has) m.current
    own_modulo (reads_last m) =
        let seen : List ℕ = set v.seen m.at old in
        let y : List ℕ = difference problem.modulus v.current seen in
        settled_modulo y m.row m.settling (λ within.
        (let entry = leading problem modulus y (left_is_row modulus ranges read m) within in
        modulo_grows problem modulus s t keeps (given_row problem m.row) (made_monic problem.modulus y)
        (loses_row problem modulus v.current seen y (same_sizes modulus ranges read m) refl s (given_row problem m.row)
        (was m.row (row_of_phase m.row m.was refl)) (seen_in_span modulus ranges read m) entry.0 entry.1)))

  -- where each given row is a multiple of what is current of it, but for a rest in the span of the held rows, so it is after a move
  pub current_modulo_kept : Ranges problem crew s → DisjointRows problem crew s → ReadPrefix problem crew s →
      CurrentModuloHeld problem crew s → IsMove problem v old w a x → CurrentModuloHeld problem crew t
  current_modulo_kept ranges apart read h move modulus i r lt has =
      let keeps = keeps_held c apart move in
      each_view c (λ j u. IsOwnModulo modulus t u)
      (own_modulo modulus ranges read keeps (λ q own. h modulus seat q c.below own) move)
      (λ j lj other q own. modulo_grows problem modulus s t keeps (given_row problem q) (view_at problem s j).current (h modulus j q lj own)) i lt r has
