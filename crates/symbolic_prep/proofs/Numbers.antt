-- A closure by number, word after word.
use Rattle.std.proofs.Common.{◌≡◌, ◌≢◌, ◌⊎◌, ◌↔◌, ◌+◌, ◌<◌, ◌≤◌, ℕ, List, [], ◌∷◌, ◌++◌, length, map, take, get_or, refl, sym, ap, ◌∙◌, inl, inr}
use Rattle.std.proofs.Common.{arith, All, AllPairs, Option, Some, subst, append_assoc, length-append}
use Rattle.std.specs.List.{AllZip, Contains, slice_get}
use Rattle.std.proofs.lemmas.List.{append-nil, get_or_append_left, map-append, take_all, take_more, take-append-le}
use Rattle.std.proofs.lemmas.List.Elements.{Contains-append_cases, Contains-append_left, Contains-append_right}
use Rattle.std.proofs.lemmas.Option.{get_or_from_slice_get, slice_get-get_or, slice_get_within}
use Rattle.words.specs.Order.{IsLetterwiseGreater}
use Rattle.words.proofs.Members.{Contains-cases, Contains-none}
use Rattle.free_poly.specs.declared.term.Term.{Term}
use Rattle.free_poly.specs.Poly.{IsPolynomial}
use Rattle.ideal_laws.specs.Closure.{HasReducer, IsInClosure, given, brought, IsReducer}
use Rattle.ideal_laws.specs.Engine.{Elements}
use Rattle.ideal_laws.specs.Kept.{IsKept}
use Rattle.lead_index.specs.declared.lead.Lead.{Lead}
use Rattle.lead_index.specs.Leads.{IsIndex, IsIndexOf}
use Rattle.symbolic_prep.specs.Walk.{HasMore, HasMoreColumns, tail_words}
use Rattle.symbolic_prep.specs.Numbers.{AreListed, AreTerms, IsGrown, IsNumbered, residues_of, terms_on}
use Rattle.symbolic_prep.proofs.Stays.{IsWord, stays}
use Rattle.symbolic_prep.proofs.Listing.{brought_words, has_columns, tail_brought}
use Rattle.symbolic_prep.proofs.Pigeons.{at_most}
use Rattle.symbolic_prep.proofs.Walks.{AllZip-push}

-- the words that are given, each once
pub numbered_none : (G : List (List Term)) (given_words words : List (List ℕ)) → ((w : List ℕ) → Contains words w ↔ Contains given_words w)
    → AllPairs (λ v w. v ≢ w) words → IsNumbered G given_words words 0 []
numbered_none G given_words words same apart = record {
  within = omega arith;
  sound = λ w m. given w ((same w).0 m);
  has = λ w m. (same w).1 m;
  brought = λ w v r m q n. absurd (Contains-none w m);
  are_reducers = tt;
  apart = apart;
}

module _ (b : Elements) (kept : IsKept b) (forms : All IsPolynomial b.elements) (d : ℕ) (leads : List Lead) (index : IsIndex leads)
    (indexed : IsIndexOf b.elements leads)
    (given_words : List (List ℕ)) (are_words : (x : List ℕ) → Contains given_words x → IsWord b kept forms d x) where
  abbrev G : List (List Term)
  G = b.elements

  -- where more different words of the closure are at hand than are asked for, there are more columns
  pub closure_many : (most : ℕ) → HasMore most (IsInClosure G given_words) → HasMoreColumns G given_words most
  closure_many most more =
      let all = has_columns b kept forms d leads index indexed given_words are_words in
      (all.columns, all.are, omega (arith, at_most more.words all.columns more.apart (λ x m. (all.are.exactly x).1 (more.each x m)), more.more))

  -- the next word with its reducer
  module _ (words : List (List ℕ)) (next : ℕ) (rs : List (Option (List Term))) (w : List ℕ) (o : Option (List Term))
      (h : IsNumbered G given_words words next rs) (lt : next < length words) (here : w ≡ get_or words next w) (is : HasReducer G w o) where
    own : Contains words w
    own = (next, lt, sym here)

    in_closure : IsInClosure G given_words w
    in_closure = h.sound w own

    -- it is a word of the degree
    pub numbered_word : IsWord b kept forms d w
    numbered_word = stays b kept forms d given_words are_words w in_closure

    -- the words that its reducer brings are in the closure
    pub tail_sound : (v : List ℕ) → Contains (tail_words o) v → IsInClosure G given_words v
    tail_sound v m = (tail_brought b kept forms d leads index indexed given_words w numbered_word in_closure o is v m).0

    -- with the words that its reducer brings it is done
    pub numbered_more : (new : List (List ℕ)) → IsGrown words new (tail_words o) → IsNumbered G given_words new (next + 1) (rs ++ o ∷ [])
    numbered_more new g = record {
      within = omega (arith, lt, ap length g.joined, length-append words g.more);
      sound = λ x m. elim (Contains-append_cases words g.more x (subst (λ (ws : List (List ℕ)). Contains ws x) g.joined m)) [
        | inl n ↦ h.sound x n
        | inr n ↦ tail_sound x (g.from x n)
      ];
      has = λ x m. later x (h.has x m);
      brought = λ x v r m q n. elim (Contains-append_cases (take next words) (w ∷ []) x (subst (λ (ws : List (List ℕ)). Contains ws x) first m)) [
        | inl k ↦ later v (h.brought x v r k q n)
        | inr k ↦ of_own v (brought_words b kept forms d leads index indexed w numbered_word o is r
            (subst (λ (y : List ℕ). IsReducer G y r) (sym (single x k)) q) v n)
      ];
      are_reducers = subst (λ (ws : List (List ℕ)). AllZip (HasReducer G) ws (rs ++ o ∷ [])) (sym first)
          (AllZip-push (HasReducer G) (take next words) rs w o h.are_reducers is);
      apart = g.apart;
    }
      where
        later : (x : List ℕ) → Contains words x → Contains new x
        later x m = subst (λ (ws : List (List ℕ)). Contains ws x) (sym g.joined) (Contains-append_left words g.more x m)

        single : (x : List ℕ) → Contains (w ∷ []) x → w ≡ x
        single x m = elim (Contains-cases w [] x m) [
          | inl e ↦ e
          | inr n ↦ absurd (Contains-none x n)
        ]

        first : take (next + 1) new ≡ take next words ++ w ∷ []
        first = ap (take (next + 1)) g.joined ∙ take-append-le (next + 1) words g.more (omega (arith, lt)) ∙ take_more words next w lt
            ∙ ap (λ (x : List ℕ). take next words ++ x ∷ []) (sym here)

        of_own : (v : List ℕ) → (w ≡ v) ⊎ (Contains (tail_words o) v × IsLetterwiseGreater w v × IsWord b kept forms d v) → Contains new v
        of_own v (inl e) = later v (subst (Contains words) e own)
        of_own v (inr p) = g.all v p.0

-- no word is left
pub numbered_all : (G : List (List Term)) (given_words words : List (List ℕ)) (next : ℕ) (rs : List (Option (List Term))) →
    IsNumbered G given_words words next rs → length words ≤ next
    → ((w : List ℕ) → Contains words w ↔ IsInClosure G given_words w) × AllZip (HasReducer G) words rs
numbered_all G given_words words next rs h done = (
  λ w. (h.sound w, all_in w),
  subst (λ (ws : List (List ℕ)). AllZip (HasReducer G) ws rs) (take_all next words done) h.are_reducers,
)
  where
    all_in : (w : List ℕ) → IsInClosure G given_words w → Contains words w
    all_in x (given w m) = h.has w m
    all_in x (brought w v r i q m) = h.brought w v r (subst (λ (ws : List (List ℕ)). Contains ws w) (sym (take_all next words done)) (all_in w i)) q m

-- numbers stay where words are added
pub AreTerms-more : (words more : List (List ℕ)) (ns rs : List ℕ) (ts : List Term) → AreTerms words ns rs ts → AreTerms (words ++ more) ns rs ts
AreTerms-more words more [] [] [] h = tt
AreTerms-more words more [] [] (t ∷ ts) h = absurd h
AreTerms-more words more [] (r ∷ rs) ts h = absurd h
AreTerms-more words more (n ∷ ns) [] ts h = absurd h
AreTerms-more words more (n ∷ ns) (r ∷ rs) [] h = absurd h
AreTerms-more words more (n ∷ ns) (r ∷ rs) (t ∷ ts) h =
    let lt = slice_get_within words n t.word h.0 in (
      slice_get-get_or (words ++ more) n [] (omega (arith, lt, length-append words more))
          ∙ ap Some (get_or_append_left words more [] n lt ∙ get_or_from_slice_get words n t.word [] h.0),
      h.1,
      AreTerms-more words more ns rs ts h.2,
    )

-- and under new numbers
pub AreTerms-renumbered : (words columns : List (List ℕ)) (places : ℕ → ℕ) →
    ((n : ℕ) (w : List ℕ) → slice_get words n ≡ Some w → slice_get columns (places n) ≡ Some w)
    → (ns rs : List ℕ) (ts : List Term) → AreTerms words ns rs ts → AreTerms columns (map places ns) rs ts
AreTerms-renumbered words columns places moved [] [] [] h = tt
AreTerms-renumbered words columns places moved [] [] (t ∷ ts) h = absurd h
AreTerms-renumbered words columns places moved [] (r ∷ rs) ts h = absurd h
AreTerms-renumbered words columns places moved (n ∷ ns) [] ts h = absurd h
AreTerms-renumbered words columns places moved (n ∷ ns) (r ∷ rs) [] h = absurd h
AreTerms-renumbered words columns places moved (n ∷ ns) (r ∷ rs) (t ∷ ts) h =
    (moved n t.word h.0, h.1, AreTerms-renumbered words columns places moved ns rs ts h.2)

-- they are the terms
pub terms_on-is : (words : List (List ℕ)) (ns rs : List ℕ) (ts : List Term) → AreTerms words ns rs ts → terms_on words ns rs ≡ ts
terms_on-is words [] [] [] h = refl
terms_on-is words [] [] (t ∷ ts) h = absurd h
terms_on-is words [] (r ∷ rs) ts h = absurd h
terms_on-is words (n ∷ ns) [] ts h = absurd h
terms_on-is words (n ∷ ns) (r ∷ rs) [] h = absurd h
terms_on-is words (n ∷ ns) (r ∷ rs) (t ∷ ts) h =
    let word : get_or words n [] ≡ t.word = get_or_from_slice_get words n t.word [] h.0 in
    (λ i. record { word = word i; coefficient = h.1 i } ∷ terms_on-is words ns rs ts h.2 i)

-- words that come one after another
pub grown_none : (words : List (List ℕ)) → AllPairs (λ v w. v ≢ w) words → IsGrown words words []
grown_none words apart = record { more = []; joined = sym (append-nil words); from = λ w m. m; all = λ w m. absurd (Contains-none w m); apart = apart }

-- one more word is added, if it is not there
pub grown_more : (old so_far new wanted all_wanted : List (List ℕ)) (w : List ℕ) → IsGrown old so_far wanted → IsGrown so_far new (w ∷ []) →
    all_wanted ≡ wanted ++ w ∷ [] → IsGrown old new all_wanted
grown_more old so_far new wanted all_wanted w g k e = record {
  more = g.more ++ k.more;
  joined = k.joined ∙ ap (λ (xs : List (List ℕ)). xs ++ k.more) g.joined ∙ append_assoc old g.more k.more;
  from = λ x m. subst (λ (ws : List (List ℕ)). Contains ws x) (sym e) (elim (Contains-append_cases g.more k.more x m) [
    | inl n ↦ Contains-append_left wanted (w ∷ []) x (g.from x n)
    | inr n ↦ Contains-append_right wanted (w ∷ []) x (k.from x n)
  ]);
  all = λ x m. elim (Contains-append_cases wanted (w ∷ []) x (subst (λ (ws : List (List ℕ)). Contains ws x) e m)) [
    | inl n ↦ subst (λ (ws : List (List ℕ)). Contains ws x) (sym k.joined) (Contains-append_left so_far k.more x (g.all x n))
    | inr n ↦ k.all x n
  ];
  apart = k.apart;
}

-- where there are too many, too many were there or wanted
pub grown_many : (old new wanted : List (List ℕ)) (room : ℕ) → IsGrown old new wanted → room < length new →
    HasMore room (λ w. Contains old w ⊎ Contains wanted w)
grown_many old new wanted room g more = record {
  words = new;
  apart = g.apart;
  each = λ w m. elim (Contains-append_cases old g.more w (subst (λ (ws : List (List ℕ)). Contains ws w) g.joined m)) [
    | inl n ↦ inl n
    | inr n ↦ inr (g.from w n)
  ];
  more = more;
}

-- one more term
pub AreTerms-push : (words : List (List ℕ)) (ns rs : List ℕ) (ts : List Term) (n r : ℕ) (t : Term) → AreTerms words ns rs ts →
    slice_get words n ≡ Some t.word → r ≡ t.coefficient → AreTerms words (ns ++ n ∷ []) (rs ++ r ∷ []) (ts ++ t ∷ [])
AreTerms-push words [] [] [] n r t h at is = (at, is, tt)
AreTerms-push words [] [] (u ∷ ts) n r t h at is = absurd h
AreTerms-push words [] (q ∷ rs) ts n r t h at is = absurd h
AreTerms-push words (m ∷ ns) [] ts n r t h at is = absurd h
AreTerms-push words (m ∷ ns) (q ∷ rs) [] n r t h at is = absurd h
AreTerms-push words (m ∷ ns) (q ∷ rs) (u ∷ ts) n r t h at is = (h.0, h.1, AreTerms-push words ns rs ts n r t h.2 at is)

-- no term is listed yet
pub listed_none : (words : List (List ℕ)) (numbers : List ℕ) → AreListed words numbers numbers []
listed_none words numbers = record { ns = []; numbers_are = sym (append-nil numbers); are_terms = tt }

-- one more term is listed, by the number of its word
pub listed_push : (words : List (List ℕ)) (numbers mid more : List ℕ) (ts all_terms : List Term) (n : ℕ) (t : Term) →
    AreListed words numbers mid ts → slice_get words n ≡ Some t.word → more ≡ mid ++ n ∷ [] → all_terms ≡ ts ++ t ∷ [] →
    AreListed words numbers more all_terms
listed_push words numbers mid more ts all_terms n t h at pushed e = record {
  ns = h.ns ++ n ∷ [];
  numbers_are = pushed ∙ ap (λ (xs : List ℕ). xs ++ n ∷ []) h.numbers_are ∙ append_assoc numbers h.ns (n ∷ []);
  are_terms = subst (λ (fs : List Term). AreTerms words (h.ns ++ n ∷ []) (residues_of fs) fs) (sym e)
      (subst (λ (rs : List ℕ). AreTerms words (h.ns ++ n ∷ []) rs (ts ++ t ∷ [])) (sym (map-append (λ (s : Term). s.coefficient) ts (t ∷ [])))
      (AreTerms-push words h.ns (residues_of ts) ts n t.coefficient t h.are_terms at refl));
}

-- the same terms among more words
pub listed_among : (so_far new wanted : List (List ℕ)) (numbers more : List ℕ) (ts : List Term) → AreListed so_far numbers more ts →
    IsGrown so_far new wanted → AreListed new numbers more ts
listed_among so_far new wanted numbers more ts h g = record {
  ns = h.ns;
  numbers_are = h.numbers_are;
  are_terms = subst (λ (ws : List (List ℕ)). AreTerms ws h.ns (residues_of ts) ts) (sym g.joined)
      (AreTerms-more so_far g.more h.ns (residues_of ts) ts h.are_terms);
}
