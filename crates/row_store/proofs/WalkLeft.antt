-- A column without a reducer is cleared: the residue there is left, where it is not 0.
use Rattle.std.proofs.Common.{◌≡◌, ◌≢◌, ◌+◌, ◌%◌, ◌<◌, ◌++◌, ◌∷◌, [], ℕ, suc, List, Option, None, Some, length, get_or, set, sym}
use Rattle.std.proofs.Common.{ap, ◌∙◌, inl, inr, arith, subst}
use Rattle.std.proofs.lemmas.Bool.{cases_eq}
use Rattle.std.proofs.lemmas.List.{get_or-set_other, get_or-set_same}
use Rattle.back_reduce.specs.Entries as rows
use Rattle.back_reduce.proofs.Tables.{none_is_some}
use Rattle.row_store.specs.declared.left.Left.{Left}
use Rattle.row_store.specs.Blocks.{IsKept}
use Rattle.row_store.specs.Entries.{reducer_at, Reducer}
use Rattle.row_store.specs.Marks.{mark_at}
use Rattle.row_store.specs.Sums.{cells_of, contested_count, place_of, IsWalked}
use Rattle.row_store.proofs.Held.{cells_of-past, cells_of-push, held_later, held_push, length-cells_of}
use Rattle.row_store.proofs.Places.{place-later, place-none, place-within}
use Rattle.row_store.proofs.Walk.{walk_kept}

module _ (p : ℕ) (rs : List (Option Reducer)) (start : List ℕ) (positive : 0 < p) (at : ℕ) (sums bits : List ℕ) (left : Left)
    (h : IsWalked p rs start at sums bits left) (after : List ℕ) (next : Left) (size : length rs ≡ length start) (lt : at < length start)
    (long : length after ≡ length bits) (own : mark_at after at ≡ 0) (others : (k : ℕ) → k ≢ at → mark_at after k ≡ mark_at bits k)
    (none : reducer_at rs at ≡ None) (x : ℕ) (is_x : x ≡ get_or sums at 0 % p) where
  abbrev j : ℕ
  j = place_of rs at

  abbrev m : ℕ
  m = contested_count rs

  gone : (reducer : Reducer) → reducer_at rs at ≡ Some reducer → get_or sums at 0 % p ≡ 0
  gone reducer there = absurd (none_is_some reducer (sym none ∙ there))

  stays : x ≡ 0 → next ≡ left → IsWalked p rs start (at + 1) (set sums at 0) after next
  stays nought same = walk_kept p rs start positive at sums bits left h after next size lt long own others
      (subst (λ (l : Left). rows.AreEntries (place_of rs (at + 1)) l.places.items l.residues.items) (sym same)
      (held_later j (place_of rs (at + 1)) left.places.items left.residues.items (place-later rs at (at + 1) (omega arith)) h.held))
      (λ _. ap (λ (l : Left). get_or (cells_of m l) j 0) same ∙ cells_of-past j left h.held m j (omega arith) ∙ sym nought ∙ is_x)
      (λ i other. ap (λ (l : Left). get_or (cells_of m l) i 0) same) gone

  grows : x ≢ 0 → next.places.items ≡ left.places.items ++ j ∷ [] → next.residues.items ≡ left.residues.items ++ x ∷ [] →
      IsWalked p rs start (at + 1) (set sums at 0) after next
  grows some places residues =
      let cells = cells_of m left in
      let low : at < length rs = omega (arith, lt, size) in
      let step : at + 1 ≡ suc at = omega arith in
      let written : cells_of m next ≡ set cells j x = cells_of-push j left h.held next x places residues m in
      let inside : j < length cells = omega (arith, place-within rs at low none, length-cells_of m left) in
      walk_kept p rs start positive at sums bits left h after next size lt long own others
      (subst (λ (n : ℕ). rows.AreEntries n next.places.items next.residues.items) (sym (ap (place_of rs) step ∙ place-none rs at low none))
      (held_push j left h.held next x places residues))
      (λ _. ap (λ (l : List ℕ). get_or l j 0) written ∙ get_or-set_same cells j x 0 inside ∙ is_x)
      (λ i other. ap (λ (l : List ℕ). get_or l i 0) written ∙ get_or-set_other cells j i x 0 (other none)) gone

  -- the walk goes on behind the column, with its residue kept
  pub walk_left : (place : ℕ) → place ≡ j → IsKept place x left next → IsWalked p rs start (at + 1) (set sums at 0) after next
  walk_left place is kept = elim (cases_eq x 0) [
    | inl nought ↦ stays nought (kept.none nought)
    | inr some ↦ grows some (kept.places some ∙ ap (λ (i : ℕ). left.places.items ++ i ∷ []) is) (kept.residues some)
  ]
