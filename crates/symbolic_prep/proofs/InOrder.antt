-- A walk by number, with its words put in order.
use Rattle.std.proofs.Common.{◌≡◌, ◌≢◌, ◌<◌, ◌≤◌, ◌+◌, ◌-◌, ℕ, List, [], ◌∷◌, drop, take, length, map, get_or, refl, sym, ap, ◌∙◌, arith, All}
use Rattle.std.proofs.Common.{AllPairs, Option, Some, None, subst, length-append}
use Rattle.std.specs.List.{AllZip, Contains, flat_map, range_with_len, slice_get, sum_by}
use Rattle.std.specs.List.Sorted.{IsPermutation}
use Rattle.std.proofs.lemmas.List.{drop-map, get_or-map, get_or_default, length-map, take-map}
use Rattle.std.proofs.lemmas.List.Elements.{All-cons, All-head, All-nil, All-tail}
use Rattle.std.proofs.lemmas.List.FromFn.{fill_by_all, get_or-range_with_len, length-range_with_len}
use Rattle.std.proofs.lemmas.List.Sorted.{All-permutation, Contains-permutation, IsPermutation-map, length_permutation, sum_by-IsPermutation}
use Rattle.std.proofs.lemmas.List.Sums.{sum_by-cons}
use Rattle.std.proofs.lemmas.Option.{get_or_from_slice_get, slice_get-get_or, slice_get_within}
use Rattle.words.specs.Order.{IsLetterwiseGreater}
use Rattle.free_poly.specs.declared.term.Term.{Term}
use Rattle.ideal_laws.specs.Closure.{HasReducer}
use Rattle.ideal_laws.specs.Quantities.{reducers_in, terms_in}
use Rattle.symbolic_prep.specs.declared.lists.Span.{Span}
use Rattle.symbolic_prep.specs.Columns.{IsListedClosure}
use Rattle.symbolic_prep.specs.Numbers.{IsListing, IsNumberWalk, IsPart, IsSpanOf, StandsAt, residues_of}
use Rattle.symbolic_prep.specs.Orders.{IsMoved, IsMovedTo, IsOrder, IsSpanIn, columns_at}
use Rattle.symbolic_prep.specs.Walk.{count_terms}
use Rattle.symbolic_prep.proofs.Ending.{AllZip-length}
use Rattle.symbolic_prep.proofs.Parts.{part_within, range_is}
use Rattle.symbolic_prep.proofs.Listings.{AllZip-at, closed_listing}
use Rattle.symbolic_prep.proofs.Numbers.{AreTerms-renumbered, numbered_all}
use Rattle.symbolic_prep.proofs.Orders.{apart-permutation}

-- the numbers from 0 on
among_numbers : (n k : ℕ) → k < n → Contains (range_with_len 0 n) k
among_numbers n k lt = (k, omega (arith, lt, length-range_with_len 0 n), get_or-range_with_len 0 n k k lt ∙ (let none : 0 + k ≡ k = omega arith in none))

numbers_apart : (n : ℕ) → AllPairs (λ a b. a ≢ b) (range_with_len 0 n)
numbers_apart n i j d before within same =
    let inside : j < n = omega (arith, within, length-range_with_len 0 n) in
    omega (arith, same, before, get_or-range_with_len 0 n i d (omega (arith, before, inside)), get_or-range_with_len 0 n j d inside)

numbers_below : (n : ℕ) → All (λ k. k < n) (range_with_len 0 n)
numbers_below n i d within =
    let inside : i < n = omega (arith, within, length-range_with_len 0 n) in
    omega (arith, get_or-range_with_len 0 n i d inside, inside)

-- a list by its numbers is the list
by_numbers : {X : Type 0} (xs : List X) (d : X) → map (λ n. get_or xs n d) (range_with_len 0 (length xs)) ≡ xs
by_numbers xs d = sym (fill_by_all (λ n. get_or xs n d) xs (length xs) d refl (λ k lt. refl))

-- the terms of all reducers, however they are ordered
terms-sum : (os : List (Option (List Term))) → terms_in (reducers_in os) ≡ sum_by count_terms os
terms-sum [] = refl
terms-sum (None ∷ os) = terms-sum os ∙ (let e : sum_by count_terms os ≡ sum_by count_terms (None ∷ os) = omega (arith, sum_by-cons count_terms None os) in e)
terms-sum (Some f ∷ os) = length-append f (flat_map (λ g. g) (reducers_in os)) ∙ ap (λ (n : ℕ). length f + n) (terms-sum os)
    ∙ sym (sum_by-cons count_terms (Some f) os)

-- as many spans as words
pub spans_long : (G : List (List Term)) (given_words words : List (List ℕ)) (from limit : ℕ) (spans : List (Option Span)) (n : List ℕ)
    (entries : ℕ) → IsNumberWalk G given_words words (length words) from limit spans n entries → length spans ≡ length words
spans_long G given_words words from limit spans n entries walk =
    let all = numbered_all G given_words words (length words) walk.reducers walk.numbered (omega arith) in
    walk.size ∙ AllZip-length (HasReducer G) words walk.reducers all.1

module _ (words : List (List ℕ)) (order : List ℕ) (columns : List (List ℕ)) (h : IsOrder words order columns) where
  -- as many numbers as words
  pub order_long : length order ≡ length words
  order_long = length_permutation (range_with_len 0 (length words)) order h.numbers ∙ length-range_with_len 0 (length words)

  -- as many columns as words
  pub columns_long : length columns ≡ length words
  columns_long = h.size ∙ order_long

  -- each number is that of a word
  pub order_below : All (λ n. n < length words) order
  order_below = All-permutation (λ n. n < length words) (range_with_len 0 (length words)) order h.numbers (numbers_below (length words))

  -- no number comes twice
  pub order_apart : AllPairs (λ a b. a ≢ b) order
  order_apart = apart-permutation (range_with_len 0 (length words)) order h.numbers (numbers_apart (length words))

  order_has : (n : ℕ) → n < length words → Contains order n
  order_has n lt = Contains-permutation (range_with_len 0 (length words)) order n h.numbers (among_numbers (length words) n lt)

  -- where places are the columns of the numbers
  module _ (places : List ℕ) (placed : (c : ℕ) → c < length order → get_or places (get_or order c 0) 0 ≡ c) where
    -- a word stands at the column that its number has
    pub moved : (n : ℕ) (w : List ℕ) → slice_get words n ≡ Some w → slice_get columns (get_or places n 0) ≡ Some w
    moved n w at =
        let m = order_has n (slice_get_within words n w at) in
        let here : get_or order m.0 0 ≡ n = get_or_default order m.0 0 n m.1 ∙ m.2 in
        let place : get_or places n 0 ≡ m.0 = ap (λ (k : ℕ). get_or places k 0) (sym here) ∙ placed m.0 m.1 in
        ap (slice_get columns) place ∙ sym (h.each m.0 m.1) ∙ ap (slice_get words) here ∙ at

    stands_moved : (n m : List ℕ) (r : List (List ℕ)) (s t : Span) (f : List Term) → StandsAt words n r s f → IsMovedTo (columns_at places n) m s t →
        StandsAt columns m r t f
    stands_moved n m r s t f h k =
        record {
          ns = columns_at places h.ns;
          place = subst (λ (xs : List ℕ). IsPart m xs t.start t.end)
              (ap (take (s.end - s.start)) (drop-map (λ k. get_or places k 0) s.start n) ∙ take-map (λ k. get_or places k 0) (s.end - s.start) (drop s.start n)
              ∙ ap (columns_at places) (range_is n h.ns s.start s.end h.place)) k.place;
          residues_are = ap (slice_get r) k.element ∙ h.residues_are;
          are_terms = AreTerms-renumbered words columns (λ n. get_or places n 0) moved h.ns (residues_of f) f h.are_terms;
        }

    span_moved : (n m : List ℕ) (r : List (List ℕ)) (s t : Option Span) (o : Option (List Term)) → IsSpanOf words n r s o →
        IsMoved (columns_at places n) m s t → IsSpanOf columns m r t o
    span_moved n m r None None None z k = tt
    span_moved n m r None None (Some f) z k = absurd z
    span_moved n m r None (Some t) o z k = absurd k
    span_moved n m r (Some s) t None z k = absurd z
    span_moved n m r (Some s) None (Some f) z k = absurd k
    span_moved n m r (Some s) (Some t) (Some f) z k = stands_moved n m r s t f z k

    spans_moved : (n m : List ℕ) (r : List (List ℕ)) (spans : List (Option Span)) (reducers : List (Option (List Term))) →
        AllZip (IsSpanOf words n r) spans reducers → length spans ≡ length words → length reducers ≡ length words
        → (ks : List ℕ) → All (λ k. k < length words) ks → (ts : List (Option Span)) →
        AllZip (IsMoved (columns_at places n) m) (map (λ k. get_or spans k None) ks) ts
        → AllZip (IsSpanOf columns m r) ts (map (λ k. get_or reducers k None) ks)
    spans_moved n m r spans reducers zipped many some [] below [] k = tt
    spans_moved n m r spans reducers zipped many some [] below (t ∷ ts) k = absurd k
    spans_moved n m r spans reducers zipped many some (i ∷ ks) below [] k = absurd k
    spans_moved n m r spans reducers zipped many some (i ∷ ks) below (t ∷ ts) k =
        let lt = All-head (λ k. k < length words) i ks below in (
          span_moved n m r (get_or spans i None) t (get_or reducers i None)
              (AllZip-at (IsSpanOf words n r) spans reducers i (get_or spans i None) (get_or reducers i None) zipped
              (slice_get-get_or spans i None (omega (arith, lt, many))) (slice_get-get_or reducers i None (omega (arith, lt, some)))) k.0,
          spans_moved n m r spans reducers zipped many some ks (All-tail (λ k. k < length words) i ks below) ts k.1,
        )

  -- the reducers in the order of the columns
  abbrev ordered : List (Option (List Term)) → List (Option (List Term))
  ordered reducers = map (λ k. get_or reducers k None) order

  ordered_terms : (reducers : List (Option (List Term))) → length reducers ≡ length words →
      terms_in (reducers_in (map (λ k. get_or reducers k None) order)) ≡ terms_in (reducers_in reducers)
  ordered_terms reducers some =
      let f : ℕ → Option (List Term) = λ k. get_or reducers k None in
      let same : map f (range_with_len 0 (length words)) ≡ reducers = ap (λ (n : ℕ). map f (range_with_len 0 n)) (sym some) ∙ by_numbers reducers None in
      terms-sum (map f order) ∙ sum_by-IsPermutation count_terms reducers (map f order)
      (subst (λ (os : List (Option (List Term))). IsPermutation os (map f order)) same
      (IsPermutation-map f (range_with_len 0 (length words)) order h.numbers)) ∙ sym (terms-sum reducers)

  ordered_listing : (reducers : List (Option (List Term))) → length reducers ≡ length words →
      IsListing words reducers columns (map (λ k. get_or reducers k None) order)
  ordered_listing reducers some = record {
    size = omega (arith, length-map order (λ k. get_or reducers k None), h.size);
    from = λ c lt.
        let inside : c < length order = omega (arith, lt, h.size) in
        let n = get_or order c 0 in
        let below : n < length words = order_below c 0 inside in (
          n,
          below,
          h.each c inside,
          slice_get-get_or reducers n None (omega (arith, below, some))
              ∙ sym (slice_get-get_or (ordered reducers) c None (omega (arith, inside, length-map order (λ k. get_or reducers k None)))
              ∙ ap Some (get_or-map (λ k. get_or reducers k None) order c 0 None inside)),
        );
    all = λ w m.
        let k = order_has m.0 m.1 in
        let here : get_or order k.0 0 ≡ m.0 = get_or_default order k.0 0 m.0 k.1 ∙ k.2 in
        let at : slice_get columns k.0 ≡ Some w = sym (h.each k.0 k.1) ∙ ap (slice_get words) here ∙ slice_get-get_or words m.0 w m.1 ∙ ap Some m.2 in
        (k.0, slice_get_within columns k.0 w at, get_or_from_slice_get columns k.0 w w at);
  }

  -- a walk over all its words, put in falling order, is the closure
  pub listed_in_order : (G : List (List Term)) (given_words : List (List ℕ)) (from limit : ℕ) (spans : List (Option Span)) (n : List ℕ)
      (entries : ℕ) → IsNumberWalk G given_words words (length words) from limit spans n entries
      → AllPairs IsLetterwiseGreater columns → (places : List ℕ) → ((c : ℕ) → c < length order → get_or places (get_or order c 0) 0 ≡ c) →
      (r : List (List ℕ)) → r ≡ map residues_of G → (m : List ℕ) (moved_spans : List (Option Span))
      → (entries ≤ limit → AllZip (IsMoved (columns_at places n) m) (map (λ k. get_or spans k None) order) moved_spans) →
      IsListedClosure G given_words from limit columns moved_spans m r entries
  listed_in_order G given_words from limit spans n entries walk falling places placed r are_residues m moved_spans are_moved =
      let all = numbered_all G given_words words (length words) walk.reducers walk.numbered (omega arith) in
      let some : length walk.reducers ≡ length words = AllZip-length (HasReducer G) words walk.reducers all.1 in
      record {
        reducers = ordered walk.reducers;
        closed = closed_listing G given_words words columns walk.reducers (ordered walk.reducers) all.0 all.1 (ordered_listing walk.reducers some) falling;
        count = omega (arith, walk.count, ordered_terms walk.reducers some);
        listed = λ le. spans_moved places placed n m r spans walk.reducers
            (subst (λ (rs : List (List ℕ)). AllZip (IsSpanOf words n rs) spans walk.reducers) (sym are_residues) (walk.listed le))
            (omega (arith, walk.size, some)) some order order_below moved_spans (are_moved le);
      }

-- a span that stands lies within the numbers
pub spans_in : (words : List (List ℕ)) (n : List ℕ) (r : List (List ℕ)) (spans : List (Option Span)) (reducers : List (Option (List Term))) →
    AllZip (IsSpanOf words n r) spans reducers → All (IsSpanIn n) spans
spans_in words n r [] reducers z = All-nil (IsSpanIn n)
spans_in words n r (s ∷ spans) [] z = absurd z
spans_in words n r (None ∷ spans) (None ∷ os) z = All-cons (IsSpanIn n) None spans tt (spans_in words n r spans os z.1)
spans_in words n r (None ∷ spans) (Some f ∷ os) z = absurd z.0
spans_in words n r (Some s ∷ spans) (None ∷ os) z = absurd z.0
spans_in words n r (Some s ∷ spans) (Some f ∷ os) z = All-cons (IsSpanIn n) (Some s) spans (
  omega (arith, z.0.place.ends),
  part_within n z.0.ns s.start s.end z.0.place,
) (spans_in words n r spans os z.1)
