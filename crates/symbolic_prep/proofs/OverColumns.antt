-- The reducers of a closure over its columns.
use Rattle.std.proofs.Common.{◌+◌, ◌<◌, ◌≤◌, ℕ, List, [], ◌∷◌, take, drop, length, map, refl, sym, All, Option, Some, None, subst}
use Rattle.std.specs.List.{AllZip, Contains}
use Rattle.std.proofs.lemmas.List.Elements.{All-contains}
use Rattle.words.proofs.Members.{All-from_members, Contains-first, Contains-map, Contains-more}
use Rattle.free_poly.specs.declared.term.Term.{Term}
use Rattle.free_poly.specs.Poly.{IsMonic, IsPolynomial}
use Rattle.free_poly.specs.Terms.{product}
use Rattle.ideal_laws.specs.Closure.{AreColumns, HasReducer, brought}
use Rattle.ideal_laws.specs.Engine.{Elements}
use Rattle.ideal_laws.specs.Kept.{IsKept, IsKeptElement}
use Rattle.ideal_laws.specs.Quantities.{contested_words}
use Rattle.symbolic_prep.specs.declared.lists.Span.{Span}
use Rattle.symbolic_prep.specs.Closed.{MayReduceOver}
use Rattle.symbolic_prep.specs.Columns.{IsKeptClosed, IsListedClosure}
use Rattle.symbolic_prep.specs.Numbers.{reducer_on}
use Rattle.symbolic_prep.proofs.ListedClosures.{reducers_on, spans_long, spans_within}
use Rattle.symbolic_prep.proofs.Stays.{IsWord, stays, words_of_reducer}

IsMonic-product : (u : List ℕ) (f : List Term) (v : List ℕ) → IsMonic f → IsMonic (product u f v)
IsMonic-product u [] v monic = monic
IsMonic-product u (t ∷ f) v monic = monic

module _ (b : Elements) (kept : IsKept b) (forms : All IsPolynomial b.elements) (d : ℕ) (given_words : List (List ℕ))
    (are_words : (x : List ℕ) → Contains given_words x → IsWord b kept forms d x) (columns : List (List ℕ))
    (are : AreColumns b.elements given_words columns) where
  may_reduce : (w : List ℕ) (o : Option (List Term)) → Contains columns w → HasReducer b.elements w o → MayReduceOver columns w o
  may_reduce w None m h = tt
  may_reduce w (Some f) m h =
      let own = (are.exactly w).0 m in
      let k = words_of_reducer b kept forms d w (stays b kept forms d given_words are_words w own) f h in
      record {
        form = k.form;
        lead = k.lead;
        monic = subst IsMonic (sym h.is) (IsMonic-product (take h.at w) h.element (drop (h.at + length h.lead) w)
            (All-contains (IsKeptElement b.weights b.done) b.elements h.element kept.each h.among).monic);
        on_columns = All-from_members (λ t. Contains columns t.word) f
            (λ t n. (are.exactly t.word).1 (brought w t.word f own h (Contains-map (λ (s : Term). s.word) f t n)));
      }

  all_reduce : (ws : List (List ℕ)) (os : List (Option (List Term))) → ((w : List ℕ) → Contains ws w → Contains columns w) →
      AllZip (HasReducer b.elements) ws os → AllZip (MayReduceOver columns) ws os
  all_reduce [] [] among z = z
  all_reduce [] (o ∷ os) among z = absurd z
  all_reduce (w ∷ ws) [] among z = absurd z
  all_reduce (w ∷ ws) (o ∷ os) among z = (
    may_reduce w o (among w (Contains-first w ws)) z.0,
    all_reduce ws os (λ v m. among v (Contains-more w ws v m)) z.1,
  )

  -- each stands over its own column
  pub reducers_over : (reducers : List (Option (List Term))) → AllZip (HasReducer b.elements) columns reducers →
      AllZip (MayReduceOver columns) columns reducers
  reducers_over reducers have = all_reduce columns reducers (λ w m. m) have

  -- and what is kept of the closure stands
  pub listed_kept : (from limit : ℕ) (spans : List (Option Span)) (n : List ℕ) (r : List (List ℕ)) (entries : ℕ) →
      (h : IsListedClosure b.elements given_words from limit columns spans n r entries) → entries ≤ limit → length columns < 4294967296 →
      IsKeptClosed columns spans n r (contested_words columns (map (reducer_on columns n r) spans))
  listed_kept from limit spans n r entries h le few =
      let z = h.listed le in
      record {
        few = few;
        falling = are.falling;
        size = spans_long columns n r b.elements columns spans h.reducers h.closed.are_reducers z;
        within = spans_within columns n r b.elements columns spans h.reducers h.closed.are_reducers z;
        reducers = subst (AllZip (MayReduceOver columns) columns) (sym (reducers_on columns n r spans h.reducers z))
            (reducers_over h.reducers h.closed.are_reducers);
        contested_is = refl;
      }
