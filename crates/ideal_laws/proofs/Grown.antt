-- A basis with the elements of one degree more.
use Rattle.std.proofs.Common.{ap₂, ◌≡◌, ◌≢◌, ◌+◌, ◌<◌, ◌≤◌, ◌==◌, ℕ, Bool, true, false, cond, List, [], ◌∷◌, ◌++◌, length, length-append, append-nil}
use Rattle.std.proofs.Common.{min, get_or, set, refl, sym, ap, ◌∙◌, inl, inr, arith, eq-eqb, All, AllPairs, subst}
use Rattle.std.specs.List.{filter, slice_range}
use Rattle.std.proofs.lemmas.Bool.{cases_lt, ne_eqb}
use Rattle.std.proofs.lemmas.List.{get_or-set_other, get_or-set_same, length-set}
use Rattle.std.proofs.lemmas.List.Elements.{All-append, All-contains, All-head, All-nil, All-tail, All-weaker}
use Rattle.words.proofs.Members.{All-from_members, AllPairs-append, AllPairs-nil}
use Rattle.free_poly.specs.declared.term.Term.{Term}
use Rattle.free_poly.specs.Terms.{HasDegree, UsesLetters}
use Rattle.free_poly.specs.Poly.{IsMonic}
use Rattle.words.specs.Words.{AreWeights, degree_of}
use Rattle.ideal_laws.specs.Basis.{HasGreaterLead, IsReducedBasis}
use Rattle.ideal_laws.specs.Engine.{Elements, IsReducedUpto, of_degree}
use Rattle.ideal_laws.specs.Ideal.{ideal_over}
use Rattle.ideal_laws.specs.Kept.{IsKept, IsKeptElement, IsStored, StandsBefore, count_below, count_upto, lead_degree}
use Rattle.ideal_laws.proofs.Counts.{upto-all, upto-append, upto-none, with_key}

-- the leading word of a monic polynomial whose words all have degree d has degree d
pub lead_degree-is : (weights : List ℕ) (d : ℕ) (f : List Term) → IsMonic f → HasDegree weights d f → lead_degree weights f ≡ d
lead_degree-is weights d [] m h = absurd m
lead_degree-is weights d (t ∷ f) m h = All-head (λ (s : Term). degree_of weights s.word ≡ d) t f h

of_degree-filter : (weights : List ℕ) (d : ℕ) (fs : List (List Term)) → All IsMonic fs → of_degree weights d fs ≡ filter (λ f. lead_degree weights f == d) fs
of_degree-filter weights d [] m = refl
of_degree-filter weights d ([] ∷ fs) m = absurd (All-head IsMonic [] fs m)
of_degree-filter weights d ((t ∷ f) ∷ fs) m =
    ap (λ (gs : List (List Term)). cond (degree_of weights t.word == d) ((t ∷ f) ∷ gs) gs) (of_degree-filter weights d fs (All-tail IsMonic (t ∷ f) fs m))

-- the elements of degree d of two lists joined are those of the first and then those of the second
pub of_degree-append : (weights : List ℕ) (d : ℕ) (fs gs : List (List Term)) → of_degree weights d (fs ++ gs) ≡ of_degree weights d fs ++ of_degree weights d gs
of_degree-append weights d [] gs = refl
of_degree-append weights d ([] ∷ fs) gs = of_degree-append weights d fs gs
of_degree-append weights d ((t ∷ f) ∷ fs) gs = by_test (degree_of weights t.word == d) (of_degree-append weights d fs gs)
  where
    by_test : (b : Bool) → of_degree weights d (fs ++ gs) ≡ of_degree weights d fs ++ of_degree weights d gs
        → cond b ((t ∷ f) ∷ of_degree weights d (fs ++ gs)) (of_degree weights d (fs ++ gs))
        ≡ cond b ((t ∷ f) ∷ of_degree weights d fs) (of_degree weights d fs) ++ of_degree weights d gs
    by_test true e = ap (λ (hs : List (List Term)). (t ∷ f) ∷ hs) e
    by_test false e = e

-- where no leading word has degree d, the list has no element of degree d
pub of_degree-none : (weights : List ℕ) (d : ℕ) (fs : List (List Term)) → All (λ f. lead_degree weights f ≢ d) fs → of_degree weights d fs ≡ []
of_degree-none weights d [] h = refl
of_degree-none weights d ([] ∷ fs) h = of_degree-none weights d fs (All-tail (λ f. lead_degree weights f ≢ d) [] fs h)
of_degree-none weights d ((t ∷ f) ∷ fs) h =
    ap (λ (b : Bool). cond b ((t ∷ f) ∷ of_degree weights d fs) (of_degree weights d fs))
    (ne_eqb (degree_of weights t.word) d (All-head (λ f. lead_degree weights f ≢ d) (t ∷ f) fs h))
    ∙ of_degree-none weights d fs (All-tail (λ f. lead_degree weights f ≢ d) (t ∷ f) fs h)

-- where each element is monic and all its words have degree d, the elements of degree d are the whole list
pub of_degree-all : (weights : List ℕ) (d : ℕ) (fs : List (List Term)) → All IsMonic fs → All (HasDegree weights d) fs → of_degree weights d fs ≡ fs
of_degree-all weights d [] m h = refl
of_degree-all weights d ([] ∷ fs) m h = absurd (All-head IsMonic [] fs m)
of_degree-all weights d ((t ∷ f) ∷ fs) m h =
    ap (λ (b : Bool). cond b ((t ∷ f) ∷ of_degree weights d fs) (of_degree weights d fs))
    (eq-eqb (degree_of weights t.word) d (lead_degree-is weights d (t ∷ f) (All-head IsMonic (t ∷ f) fs m) (All-head (HasDegree weights d) (t ∷ f) fs h)))
    ∙ ap (λ (gs : List (List Term)). (t ∷ f) ∷ gs) (of_degree-all weights d fs (All-tail IsMonic (t ∷ f) fs m) (All-tail (HasDegree weights d) (t ∷ f) fs h))

-- the elements of degree d of a basis stand together, behind those of lower degrees
pub degree_together : (basis : Elements) → IsKept basis → (d : ℕ)
    → slice_range basis.elements (count_below basis.weights d basis.elements) (count_upto basis.weights d basis.elements)
    ≡ of_degree basis.weights d basis.elements
degree_together basis h d =
    let rising : AllPairs (λ f g. lead_degree basis.weights f ≤ lead_degree basis.weights g) basis.elements =
    λ i j f below within. no_later _ _ (h.ordered i j f below within) in
    with_key (lead_degree basis.weights) d basis.elements rising
    ∙ sym (of_degree-filter basis.weights d basis.elements (All-weaker (IsKeptElement basis.weights basis.done) IsMonic (λ f k. k.monic) basis.elements h.each))
  where
    no_later : (f g : List Term) → StandsBefore basis.weights f g → lead_degree basis.weights f ≤ lead_degree basis.weights g
    no_later f g (inl lower) = omega (arith, lower)
    no_later f g (inr equal) = omega (arith, equal.0)

-- the end stored at degree d, or at the last degree that is done where that is less, is the number of elements of degrees up to d
pub end_stored : (basis : Elements) (ends : List ℕ) → IsStored basis ends → (d m : ℕ) → m ≡ min d basis.done →
    get_or ends m 0 ≡ count_upto basis.weights d basis.elements
end_stored basis ends h d m e = elim (cases_lt basis.done d) [
  | inl past ↦
      let is : m ≡ basis.done = omega (arith, e, past) in
      ap (λ (n : ℕ). get_or ends n 0) is ∙ h.counted basis.done (omega arith)
      ∙ upto-all (lead_degree basis.weights) basis.done basis.elements (λ k f within. (h.kept.each k f within).upto)
      ∙ sym (upto-all (lead_degree basis.weights) d basis.elements (λ k f within. omega (arith, (h.kept.each k f within).upto, past)))
  | inr within ↦
      let is : m ≡ d = omega (arith, e, within) in
      ap (λ (n : ℕ). get_or ends n 0) is ∙ h.counted d within
]

-- elements that may be the next degree
pub record AreNext (basis : Elements) (added : List (List Term)) : Type 0 where
  pub few : length added ≤ 16777216
  pub monic : All IsMonic added
  pub letters : All (UsesLetters (length basis.weights)) added
  pub degree : All (HasDegree basis.weights (basis.done + 1)) added
  pub falling : AllPairs HasGreaterLead added

abbrev pub grown : Elements → List (List Term) → Elements
grown basis added = record { weights = basis.weights; done = basis.done + 1; elements = basis.elements ++ added }

module _ (basis : Elements) (added : List (List Term)) (next : AreNext basis added) where
  leads_next : All (λ f. lead_degree basis.weights f ≡ basis.done + 1) added
  leads_next k f within = lead_degree-is basis.weights (basis.done + 1) _ (next.monic k f within) (next.degree k f within)

  kept_next : All (IsKeptElement basis.weights (basis.done + 1)) added
  kept_next k f within =
      let e = leads_next k f within in
      record {
        monic = next.monic k f within;
        letters = next.letters k f within;
        degree = subst (λ (n : ℕ). HasDegree basis.weights n (get_or added k f)) (sym e) (next.degree k f within);
        from = omega (arith, e);
        upto = omega (arith, e);
      }

  kept_grown : IsKept basis → basis.done < 64 → IsKept (grown basis added)
  kept_grown h room =
      let each = All-append (IsKeptElement basis.weights (basis.done + 1)) basis.elements added
      (All-weaker (IsKeptElement basis.weights basis.done) (IsKeptElement basis.weights (basis.done + 1))
      (λ f k. record { monic = k.monic; letters = k.letters; degree = k.degree; from = k.from; upto = omega (arith, k.upto) })
      basis.elements h.each)
      kept_next in
      record {
        some = h.some;
        letters = h.letters;
        weights = h.weights;
        degrees = omega (arith, room);
        each = each;
        ordered = AllPairs-append (StandsBefore basis.weights) basis.elements added h.ordered
            (λ i j f below within. inr (leads_next i f (omega (arith, below, within)) ∙ sym (leads_next j f within), next.falling i j f below within))
            (λ f m k g within. inl (omega (
              arith,
              (All-contains (IsKeptElement basis.weights basis.done) basis.elements f h.each m).upto,
              leads_next k g within,
            )));
        few = omega (arith, h.few, next.few, length-append basis.elements added);
      }

  counted_grown : (ends : List ℕ) → IsStored basis ends → basis.done < 64 → (d : ℕ) → d ≤ basis.done + 1
      → get_or (set ends (basis.done + 1) (length (basis.elements ++ added))) d 0 ≡ count_upto basis.weights d (basis.elements ++ added)
  counted_grown ends h room d le = elim (cases_lt basis.done d) [
    | inl last ↦
        let is : d ≡ basis.done + 1 = omega (arith, last, le) in
        let whole = upto-all (lead_degree basis.weights) d (basis.elements ++ added) (All-append (λ f. lead_degree basis.weights f ≤ d) basis.elements added
        (λ k f within. omega (arith, (h.kept.each k f within).upto, last)) (λ k f within. omega (arith, leads_next k f within, is))) in
        ap (λ (n : ℕ). get_or (set ends (basis.done + 1) (length (basis.elements ++ added))) n 0) is
        ∙ get_or-set_same ends (basis.done + 1) (length (basis.elements ++ added)) 0 (omega (arith, h.size, room)) ∙ sym whole
    | inr before ↦
        let none = upto-none (lead_degree basis.weights) d added (λ k f within. omega (arith, leads_next k f within, before)) in
        get_or-set_other ends (basis.done + 1) d (length (basis.elements ++ added)) 0 (λ e. omega (arith, e, before)) ∙ h.counted d before
        ∙ omega (arith, upto-append (lead_degree basis.weights) d basis.elements added, none)
  ]

  -- where a basis with fewer than 64 degrees is stored, it is stored with the next degree too, whose end is the number of all elements
  pub stored_grown : (ends : List ℕ) → IsStored basis ends → basis.done < 64 →
      IsStored (grown basis added) (set ends (basis.done + 1) (length (basis.elements ++ added)))
  stored_grown ends h room = record {
    kept = kept_grown h.kept room;
    size = length-set {A = ℕ} ends (basis.done + 1) (length (basis.elements ++ added)) ∙ h.size;
    counted = counted_grown ends h room;
  }

  -- a basis that is reduced in each degree stays so with the reduced basis of the next one
  pub reduced_grown : (p : ℕ) (relations : List (List Term)) → IsKept basis → IsReducedUpto p relations basis →
      IsReducedBasis (ideal_over p basis.weights relations) (basis.done + 1) added → IsReducedUpto p relations (grown basis added)
  reduced_grown p relations h old new d from le = elim (cases_lt basis.done d) [
    | inl last ↦
        let is : d ≡ basis.done + 1 = omega (arith, last, le) in
        let here : of_degree basis.weights d (basis.elements ++ added) ≡ added =
        of_degree-append basis.weights d basis.elements added
        ∙ ap₂ (λ (fs gs : List (List Term)). fs ++ gs) (of_degree-none basis.weights d basis.elements
        (λ k f within e. omega (arith, (h.each k f within).upto, e, last)))
        (ap (λ (n : ℕ). of_degree basis.weights n added) is ∙ of_degree-all basis.weights (basis.done + 1) added next.monic next.degree) in
        subst (IsReducedBasis (ideal_over p basis.weights relations) d) (sym here)
        (subst (λ (n : ℕ). IsReducedBasis (ideal_over p basis.weights relations) n added) (sym is) new)
    | inr before ↦
        let here : of_degree basis.weights d (basis.elements ++ added) ≡ of_degree basis.weights d basis.elements =
        of_degree-append basis.weights d basis.elements added
        ∙ ap (λ (gs : List (List Term)). of_degree basis.weights d basis.elements ++ gs)
        (of_degree-none basis.weights d added (λ k f within e. omega (arith, leads_next k f within, e, before)))
        ∙ append-nil (of_degree basis.weights d basis.elements) in
        subst (IsReducedBasis (ideal_over p basis.weights relations) d) (sym here) (old d from before)
  ]

-- the reduced basis of the next degree, where it has at most 16,777,216 elements, may be the next degree of a basis
pub next_from_reduced : (p : ℕ) (relations : List (List Term)) (basis : Elements) (added : List (List Term)) → length added ≤ 16777216
    → IsReducedBasis (ideal_over p basis.weights relations) (basis.done + 1) added → AreNext basis added
next_from_reduced p relations basis added few h = record {
  few = few;
  monic = All-from_members IsMonic added (λ f m. ((h.exactly f).0 m).monic);
  letters = All-from_members (UsesLetters (length basis.weights)) added (λ f m. ((h.exactly f).0 m).inside.element.letters);
  degree = All-from_members (HasDegree basis.weights (basis.done + 1)) added (λ f m. ((h.exactly f).0 m).inside.element.degree);
  falling = h.falling;
}

-- the basis with no degree done, in one to 64 letters of weights from 1 to 8, is stored where the end of degree 0 is 0
pub stored_none : (weights ends : List ℕ) → 0 < length weights → length weights ≤ 64 → AreWeights weights → length ends ≡ 65 →
    get_or ends 0 0 ≡ 0 → IsStored (record { weights = weights; done = 0; elements = [] }) ends
stored_none weights ends one few are size none = record {
  kept = record {
    some = one;
    letters = few;
    weights = are;
    degrees = omega arith;
    each = All-nil (IsKeptElement weights 0);
    ordered = AllPairs-nil (StandsBefore weights);
    few = omega arith;
  };
  size = size;
  counted = λ d le. ap (λ (n : ℕ). get_or ends n 0) (let z : d ≡ 0 = omega (arith, le) in z) ∙ none;
}

-- a basis that has grown by the reduced basis of the next degree is reduced in each degree, where it was so before
pub reduced_upto_grown : (p : ℕ) (relations : List (List Term)) (old new : Elements) (added : List (List Term)) → IsKept old →
    IsReducedUpto p relations old → length added ≤ 16777216
    → IsReducedBasis (ideal_over p old.weights relations) (old.done + 1) added → new.weights ≡ old.weights → new.done ≡ old.done + 1 →
    new.elements ≡ old.elements ++ added → IsReducedUpto p relations new
reduced_upto_grown p relations old new added kept upto few h w d e =
    let is : grown old added ≡ new = λ i. record { weights = sym w i; done = sym d i; elements = sym e i } in
    subst (IsReducedUpto p relations) is (reduced_grown old added (next_from_reduced p relations old added few h) p relations kept upto h)
