-- Reducers that are put in another order, one behind another.
use Rattle.std.proofs.Common.{◌≡◌, ◌+◌, ◌<◌, ℕ, List, [], ◌∷◌, ◌++◌, length, drop, take, get_or, set, sym, ap, ◌∙◌, arith, Option, Some, None, subst}
use Rattle.std.specs.List.{AllZip, slice_range}
use Rattle.std.proofs.lemmas.List.{drop-drop, drop-set-lt, get_or-drop, take_more, take_more_set}
use Rattle.symbolic_prep.specs.declared.lists.Span.{Span}
use Rattle.symbolic_prep.specs.Numbers.{IsLonger}
use Rattle.symbolic_prep.specs.Orders.{IsMoved, IsMovedTo}
use Rattle.symbolic_prep.proofs.Parts.{part_last, part_longer}
use Rattle.symbolic_prep.proofs.Walks.{AllZip-push}

module _ (numbers m q : List ℕ) (l : IsLonger m q) where
  -- what has moved stays where more is put behind it
  moved-more : (s t : Span) → IsMovedTo numbers m s t → IsMovedTo numbers q s t
  moved-more s t h = record {
    place = part_longer m (slice_range numbers s.start s.end) t.start t.end q l h.place;
    element = h.element;
  }

  all_moved-more : (ss ts : List (Option Span)) → AllZip (IsMoved numbers m) ss ts → AllZip (IsMoved numbers q) ss ts
  all_moved-more [] [] z = tt
  all_moved-more [] (t ∷ ts) z = absurd z
  all_moved-more (s ∷ ss) [] z = absurd z
  all_moved-more (None ∷ ss) (None ∷ ts) z = (tt, all_moved-more ss ts z.1)
  all_moved-more (None ∷ ss) (Some t ∷ ts) z = absurd z.0
  all_moved-more (Some s ∷ ss) (None ∷ ts) z = absurd z.0
  all_moved-more (Some s ∷ ss) (Some t ∷ ts) z = (moved-more s t z.0, all_moved-more ss ts z.1)

  -- one more span has moved
  pub moved_set : (ss ts : List (Option Span)) (i : ℕ) (t : Option Span) → i < length ss → i < length ts → AllZip (IsMoved numbers m) (take i ss) (take i ts)
      → IsMoved numbers q (get_or ss i None) t → AllZip (IsMoved numbers q) (take (i + 1) ss) (take (i + 1) (set ts i t))
  moved_set ss ts i t within inside z h =
      subst (λ (us : List (Option Span)). AllZip (IsMoved numbers q) us (take (i + 1) (set ts i t))) (sym (take_more ss i None within))
      (subst (AllZip (IsMoved numbers q) (take i ss ++ get_or ss i None ∷ [])) (sym (take_more_set ts i t inside))
      (AllZip-push (IsMoved numbers q) (take i ss) (take i ts) (get_or ss i None) t (all_moved-more (take i ss) (take i ts) z) h))

-- the numbers of a span, put behind others
pub moved_part : (numbers old new : List ℕ) (s t : Span) → new ≡ old ++ slice_range numbers s.start s.end →
    length old ≡ t.start → length new ≡ t.end → t.element ≡ s.element → IsMovedTo numbers new s t
moved_part numbers old new s t made starts ends element = record {
  place = part_last old new (slice_range numbers s.start s.end) t.start t.end made starts ends;
  element = element;
}

module _ {X : Type 0} (xs ys : List X) (i : ℕ) (e : drop i xs ≡ drop i ys) where
  -- lists that are the same from a place on are the same there
  pub same_here : (d : X) → get_or xs i d ≡ get_or ys i d
  same_here d =
      let on : i + 0 ≡ i = omega arith in
      ap (λ (k : ℕ). get_or xs k d) (sym on) ∙ sym (get_or-drop i xs 0 d) ∙ ap (λ (l : List X). get_or l 0 d) e
      ∙ get_or-drop i ys 0 d ∙ ap (λ (k : ℕ). get_or ys k d) on

  -- and behind it, where it is set to something else
  pub same_behind : (y : X) → drop (i + 1) (set xs i y) ≡ drop (i + 1) ys
  same_behind y = drop-set-lt (i + 1) xs i y (omega arith) ∙ sym (drop-drop 1 i xs) ∙ ap (drop 1) e ∙ drop-drop 1 i ys
