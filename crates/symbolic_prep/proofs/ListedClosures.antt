-- A closure that is listed.
use Rattle.std.proofs.Common.{◌≡◌, ◌↔◌, ◌≤◌, ◌<◌, ◌+◌, ℕ, List, [], ◌∷◌, length, map, take, drop, refl, sym, ap, ◌∙◌, arith, All, Option}
use Rattle.std.proofs.Common.{Some, None, subst}
use Rattle.std.specs.List.{AllZip, Contains}
use Rattle.std.proofs.lemmas.List.{length-map}
use Rattle.std.proofs.lemmas.List.Elements.{All-cons, All-nil}
use Rattle.std.proofs.lemmas.Option.{get_or_from_slice_get, slice_get_within}
use Rattle.words.proofs.Members.{All-from_members}
use Rattle.free_poly.specs.declared.term.Term.{Term}
use Rattle.free_poly.specs.Poly.{IsPolynomial, lead_of}
use Rattle.free_poly.specs.Terms.{product}
use Rattle.ideal_laws.specs.Closure.{HasReducer, IsInClosure, IsReducer}
use Rattle.ideal_laws.specs.Engine.{Elements}
use Rattle.ideal_laws.specs.Kept.{IsKept}
use Rattle.symbolic_prep.specs.declared.lists.Span.{Span}
use Rattle.symbolic_prep.specs.Columns.{IsListedClosure}
use Rattle.symbolic_prep.specs.Numbers.{IsSpanOf, IsSpanWithin, StandsAt, reducer_on, residues_of, terms_on}
use Rattle.symbolic_prep.specs.Orders.{HaveOneDegree}
use Rattle.symbolic_prep.specs.Walk.{IsWalked}
use Rattle.symbolic_prep.proofs.Ending.{AllZip-length}
use Rattle.symbolic_prep.proofs.Numbers.{terms_on-is}
use Rattle.symbolic_prep.proofs.Parts.{part_within, range_is}
use Rattle.symbolic_prep.proofs.Reduced.{AreTerms-below, AreTerms-length}
use Rattle.symbolic_prep.proofs.Stays.{IsWord, stays}
use Rattle.symbolic_prep.proofs.Walks.{same_columns}

-- it is that of all lists with the same words
pub listed-same : (G : List (List Term)) (words others : List (List ℕ)) (from limit : ℕ) (columns : List (List ℕ))
    (spans : List (Option Span)) (n : List ℕ) (r : List (List ℕ)) (entries : ℕ) → ((w : List ℕ) → Contains words w ↔ Contains others w)
    → IsListedClosure G words from limit columns spans n r entries → IsListedClosure G others from limit columns spans n r entries
listed-same G words others from limit columns spans n r entries same h = record {
  reducers = h.reducers;
  closed = record { are_columns = same_columns G words others columns same h.closed.are_columns; are_reducers = h.closed.are_reducers };
  count = h.count;
  listed = h.listed;
}

-- words of a closure have the degree of those that are given
pub one_degree : (b : Elements) (kept : IsKept b) (forms : All IsPolynomial b.elements) (d : ℕ) (given_words : List (List ℕ))
    (are_words : (x : List ℕ) → Contains given_words x → IsWord b kept forms d x)
    → (words : List (List ℕ)) → ((w : List ℕ) → Contains words w → IsInClosure b.elements given_words w) → HaveOneDegree words
one_degree b kept forms d given_words are_words words sound = record {
  weights = b.weights;
  are = kept.weights;
  d = d;
  each = All-from_members _ words (λ w m. (stays b kept forms d given_words are_words w (sound w m)).1);
}

-- a walk from the greatest word down, with the reducers that it held listed
pub walked_listed : (G : List (List Term)) (words : List (List ℕ)) (from limit : ℕ) (columns : List (List ℕ))
    (held : List (Option (List Term))) (entries : ℕ) (spans : List (Option Span)) (n : List ℕ) (r : List (List ℕ))
    → IsWalked G words from limit columns held entries → (entries ≤ limit → AllZip (IsSpanOf columns n r) spans held) →
    IsListedClosure G words from limit columns spans n r entries
walked_listed G words from limit columns held entries spans n r h listed = record {
  reducers = h.reducers;
  closed = h.closed;
  count = h.counted.count;
  listed = λ le. subst (AllZip (IsSpanOf columns n r) spans) (h.counted.same le) (listed le);
}

-- and the other way: the reducers are those that are listed
-- a reducer has a term
reducer_some : (G : List (List Term)) (w : List ℕ) (f : List Term) → IsReducer G w f → 0 < length f
reducer_some G w f q = some q.element q.is_lead q.is
  where
    some : (g : List Term) → lead_of g ≡ Some q.lead → f ≡ product (take q.at w) g (drop (q.at + length q.lead) w) → 0 < length f
    some [] lead is = absurd (let e : None ≡ Some q.lead = lead in cc e)
    some (t ∷ g) lead is = omega (arith, ap length is)

module _ (columns : List (List ℕ)) (n : List ℕ) (r : List (List ℕ)) where
  stands_on : (s : Span) (f : List Term) → StandsAt columns n r s f → reducer_on columns n r (Some s) ≡ Some f
  stands_on s f h =
      let ns = range_is n h.ns s.start s.end h.place in
      let rs = get_or_from_slice_get r s.element (residues_of f) [] h.residues_are in
      (λ i. Some (terms_on columns (ns i) (rs i))) ∙ ap Some (terms_on-is columns h.ns (residues_of f) f h.are_terms)

  -- the reducers are those that stand in the lists
  pub reducers_on : (spans : List (Option Span)) (reducers : List (Option (List Term))) → AllZip (IsSpanOf columns n r) spans reducers →
      map (reducer_on columns n r) spans ≡ reducers
  reducers_on [] [] z = refl
  reducers_on [] (o ∷ os) z = absurd z
  reducers_on (s ∷ ss) [] z = absurd z
  reducers_on (None ∷ ss) (None ∷ os) z = ap (λ (qs : List (Option (List Term))). None ∷ qs) (reducers_on ss os z.1)
  reducers_on (None ∷ ss) (Some f ∷ os) z = absurd z.0
  reducers_on (Some s ∷ ss) (None ∷ os) z = absurd z.0
  reducers_on (Some s ∷ ss) (Some f ∷ os) z = (λ i. stands_on s f z.0 i ∷ reducers_on ss os z.1 i)

  -- as many as columns
  pub spans_long : (G : List (List Term)) (ws : List (List ℕ)) (spans : List (Option Span)) (reducers : List (Option (List Term))) →
      AllZip (HasReducer G) ws reducers → AllZip (IsSpanOf columns n r) spans reducers → length spans ≡ length ws
  spans_long G ws spans reducers h z = sym (AllZip-length (IsSpanOf columns n r) spans reducers z) ∙ AllZip-length (HasReducer G) ws reducers h

  within_one : (s : Span) (f : List Term) → StandsAt columns n r s f → 0 < length f → IsSpanWithin (length columns) n r (Some s)
  within_one s f h some =
      let ns = range_is n h.ns s.start s.end h.place in (
        omega (
          arith,
          some,
          h.place.ends,
          AreTerms-length columns h.ns (residues_of f) f h.are_terms,
          length-map f (λ (t : Term). t.coefficient),
        ),
        part_within n h.ns s.start s.end h.place,
        slice_get_within r s.element (residues_of f) h.residues_are,
        omega (
          arith,
          h.place.ends,
          AreTerms-length columns h.ns (residues_of f) f h.are_terms,
          ap length (get_or_from_slice_get r s.element (residues_of f) [] h.residues_are),
        ),
        subst (All (λ k. k < length columns)) (sym ns) (AreTerms-below columns h.ns (residues_of f) f h.are_terms),
      )

  -- and each stands within them
  pub spans_within : (G : List (List Term)) (ws : List (List ℕ)) (spans : List (Option Span)) (reducers : List (Option (List Term))) →
      AllZip (HasReducer G) ws reducers → AllZip (IsSpanOf columns n r) spans reducers
      → All (IsSpanWithin (length columns) n r) spans
  spans_within G [] [] [] h z = All-nil (IsSpanWithin (length columns) n r)
  spans_within G [] [] (o ∷ os) h z = absurd h
  spans_within G [] (s ∷ ss) os h z = absurd (none os h z)
    where
      none : (os : List (Option (List Term))) → AllZip (HasReducer G) [] os → AllZip (IsSpanOf columns n r) (s ∷ ss) os → ⊥
      none [] h z = z
      none (o ∷ os) h z = h
  spans_within G (w ∷ ws) [] os h z = All-nil (IsSpanWithin (length columns) n r)
  spans_within G (w ∷ ws) (s ∷ ss) [] h z = absurd h
  spans_within G (w ∷ ws) (None ∷ ss) (None ∷ os) h z = All-cons (IsSpanWithin (length columns) n r) None ss tt (spans_within G ws ss os h.1 z.1)
  spans_within G (w ∷ ws) (None ∷ ss) (Some f ∷ os) h z = absurd z.0
  spans_within G (w ∷ ws) (Some s ∷ ss) (None ∷ os) h z = absurd z.0
  spans_within G (w ∷ ws) (Some s ∷ ss) (Some f ∷ os) h z = All-cons (IsSpanWithin (length columns) n r) (Some s) ss
      (within_one s f z.0 (reducer_some G w f h.0)) (spans_within G ws ss os h.1 z.1)
