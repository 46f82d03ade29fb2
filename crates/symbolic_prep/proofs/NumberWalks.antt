-- A walk by number, step by step.
use Rattle.std.proofs.Common.{◌≡◌, ◌≢◌, ◌+◌, ◌<◌, ◌≤◌, ℕ, List, [], ◌∷◌, ◌++◌, length, map, get_or, sym, ap, ◌∙◌, arith, All, AllPairs, Option, Some, None}
use Rattle.std.proofs.Common.{subst, length-append}
use Rattle.std.specs.List.{AllZip, Contains, slice_get}
use Rattle.std.proofs.lemmas.List.Elements.{All-nil}
use Rattle.free_poly.specs.declared.term.Term.{Term}
use Rattle.free_poly.specs.Poly.{IsPolynomial}
use Rattle.ideal_laws.specs.Engine.{Elements}
use Rattle.ideal_laws.specs.Kept.{IsKept}
use Rattle.lead_index.specs.declared.lead.Lead.{Lead}
use Rattle.lead_index.specs.Leads.{IsIndex, IsIndexOf}
use Rattle.symbolic_prep.specs.declared.lists.Span.{Span}
use Rattle.symbolic_prep.specs.Walk.{tail_words}
use Rattle.symbolic_prep.specs.Numbers.{AreTerms, IsGrown, IsLonger, IsNumberWalk, IsReducedTo, IsSpanOf, StandsAt, residues_of}
use Rattle.symbolic_prep.proofs.Numbers.{AreTerms-more, numbered_more, numbered_none}
use Rattle.symbolic_prep.proofs.Parts.{part_longer}
use Rattle.symbolic_prep.proofs.Reduced.{longer_none, slice_get-more}
use Rattle.symbolic_prep.proofs.Stays.{IsWord}
use Rattle.symbolic_prep.proofs.Walks.{AllZip-push, reducers_in-push}

-- what stands in the lists still does in longer ones
module _ (words new wanted : List (List ℕ)) (n m : List ℕ) (r q : List (List ℕ)) (g : IsGrown words new wanted) (l : IsLonger n m)
    (k : IsLonger r q) where
  stands-more : (s : Span) (f : List Term) → StandsAt words n r s f → StandsAt new m q s f
  stands-more s f h = record {
    ns = h.ns;
    place = part_longer n h.ns s.start s.end m l h.place;
    residues_are = ap (λ (xs : List (List ℕ)). slice_get xs s.element) k.joined ∙ slice_get-more r k.more s.element (residues_of f) h.residues_are;
    are_terms = subst (λ (ws : List (List ℕ)). AreTerms ws h.ns (residues_of f) f) (sym g.joined)
        (AreTerms-more words g.more h.ns (residues_of f) f h.are_terms);
  }

  -- the reducers of the spans stand in the longer lists too
  pub spans-more : (spans : List (Option Span)) (rs : List (Option (List Term))) → AllZip (IsSpanOf words n r) spans rs →
      AllZip (IsSpanOf new m q) spans rs
  spans-more [] [] z = tt
  spans-more [] (o ∷ rs) z = absurd z
  spans-more (s ∷ spans) [] z = absurd z
  spans-more (None ∷ spans) (None ∷ rs) z = (tt, spans-more spans rs z.1)
  spans-more (None ∷ spans) (Some f ∷ rs) z = absurd z.0
  spans-more (Some s ∷ spans) (None ∷ rs) z = absurd z.0
  spans-more (Some s ∷ spans) (Some f ∷ rs) z = (stands-more s f z.0, spans-more spans rs z.1)

-- before the walk no word has its reducer yet
pub number_walk_none : (G : List (List Term)) (words : List (List ℕ)) (from limit : ℕ) (spans : List (Option Span))
    (numbers : List ℕ) → AllPairs (λ v w. v ≢ w) words → from ≤ limit + 1 → spans ≡ [] → numbers ≡ []
    → IsNumberWalk G words words 0 from limit spans numbers from
number_walk_none G words from limit spans numbers apart le none no_numbers = record {
  reducers = [];
  numbered = numbered_none G words words (λ w. (λ m. m, λ m. m)) apart;
  count = omega (arith, le);
  size = ap length none;
  listed = λ h. subst (λ (ss : List (Option Span)). AllZip (IsSpanOf words numbers (map residues_of G)) ss []) (sym none) tt;
  below = λ h. subst (All (λ n. n < length words)) (sym no_numbers) (All-nil (λ n. n < length words));
}

module _ (b : Elements) (kept : IsKept b) (forms : All IsPolynomial b.elements) (d : ℕ) (leads : List Lead) (index : IsIndex leads)
    (indexed : IsIndexOf b.elements leads)
    (given_words : List (List ℕ)) (are_words : (x : List ℕ) → Contains given_words x → IsWord b kept forms d x) where
  -- the next word with its reducer is one more step of the walk
  pub number_walk_more : (words new : List (List ℕ)) (next from limit : ℕ) (spans more_spans : List (Option Span)) (n m : List ℕ)
      (entries more : ℕ) (w : List ℕ) (span : Option Span)
      → IsNumberWalk b.elements given_words words next from limit spans n entries → next < length words → w ≡ get_or words next w
      → IsReducedTo b.elements w words new n m entries limit span more → more_spans ≡ spans ++ span ∷ [] →
      IsNumberWalk b.elements given_words new (next + 1) from limit more_spans m more
  number_walk_more words new next from limit spans more_spans n m entries more w span h lt here k pushed = record {
    reducers = h.reducers ++ k.reducer ∷ [];
    numbered = numbered_more b kept forms d leads index indexed given_words are_words words next h.reducers w k.reducer h.numbered lt here k.is new k.grown;
    count = omega (arith, h.count, k.count, reducers_in-push h.reducers k.reducer);
    size = omega (arith, ap length pushed, length-append spans (span ∷ []), length-append h.reducers (k.reducer ∷ []), h.size);
    listed = λ le. subst (λ (ss : List (Option Span)). AllZip (IsSpanOf new m (map residues_of b.elements)) ss (h.reducers ++ k.reducer ∷ [])) (sym pushed)
        (AllZip-push (IsSpanOf new m (map residues_of b.elements)) spans h.reducers span k.reducer
        (spans-more words new (tail_words k.reducer) n m (map residues_of b.elements) (map residues_of b.elements) k.grown (k.longer le)
        (longer_none (map residues_of b.elements)) spans h.reducers (h.listed (omega (arith, le, k.count)))) (k.stands le));
    below = λ le. k.below le (h.below (omega (arith, le, k.count)));
  }
