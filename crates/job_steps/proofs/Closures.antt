-- The closure of words of a degree is a list: its words are found by walking down all words of the degree.
use Rattle.std.proofs.Common.{◌≡◌, ◌⊎◌, ℕ, List, [], ◌∷◌, ◌++◌, map, sym, ◌∙◌, inl, inr, AllPairs, subst, Option}
use Rattle.std.specs.List.{AllZip, Contains, flat_map}
use Rattle.std.proofs.lemmas.List.Elements.{All-contains, Contains-append_cases, Contains-append_left, Contains-append_right}
use Rattle.std.proofs.lemmas.List.Kept.{AllPairs-cons}
use Rattle.words.specs.Order.{IsLetterwiseGreater}
use Rattle.words.proofs.Members.{AllPairs-first, AllPairs-nil, AllPairs-rest, All-from_members, Contains-cases, Contains-first, Contains-flat_map}
use Rattle.words.proofs.Members.{Contains-flat_map_cases, Contains-more, Contains-none}
use Rattle.free_poly.specs.declared.term.Term.{Term}
use Rattle.free_poly.proofs.FromWords.{listed}
use Rattle.free_poly.proofs.NormalForms.{letterwise-trans}
use Rattle.free_poly.proofs.Totals.{letterwise-apart}
use Rattle.ideal_laws.specs.Closure.{AreColumns, HasReducer, IsInClosure, IsReducer, given, brought}
use Rattle.job_steps.proofs.Reducers.{has_reducers}

-- the words of a polynomial
abbrev pub words_in : List Term → List (List ℕ)
words_in r = map (λ t. t.word) r

module _ (G : List (List Term)) (words : List (List ℕ)) (lower : (w v : List ℕ) (r : List Term) → IsReducer G w r →
    Contains (words_in r) v → (w ≡ v) ⊎ IsLetterwiseGreater w v) where
  brings : List ℕ → List (List ℕ)
  brings w = flat_map words_in (has_reducers G w).all

  brings_all : (w v : List ℕ) (r : List Term) → IsReducer G w r → Contains (words_in r) v → Contains (brings w) v
  unfolding brings
  brings_all w v r h m = Contains-flat_map words_in (has_reducers G w).all r v ((has_reducers G w).listed r h) m

  brings_inside : (w v : List ℕ) → IsInClosure G words w → Contains (brings w) v → IsInClosure G words v
  unfolding brings
  brings_inside w v inside m =
      let c = Contains-flat_map_cases words_in (has_reducers G w).all v m in
      brought w v c.0 inside ((has_reducers G w).each c.0 c.1) c.2

  abbrev AreInside : List (List ℕ) → Type 0
  AreInside pending = (w : List ℕ) → Contains pending w → IsInClosure G words w

  -- the words of the closure in a list that falls, where those of pending are in it and bring further ones
  pub record ClosedFrom (ws pending : List (List ℕ)) : Type 0 where
    -- the words
    pub columns : List (List ℕ)
    -- each is one of the list
    pub among : (w : List ℕ) → Contains columns w → Contains ws w
    -- each is in the closure
    pub inside : AreInside columns
    -- each word of pending that is one of the list is there
    pub complete : (w : List ℕ) → Contains pending w → Contains ws w → Contains columns w
    -- with a word there is each word of its reducers that is one of the list
    pub closed : (w v : List ℕ) (r : List Term) → Contains columns w → IsReducer G w r → Contains (words_in r) v → Contains ws v → Contains columns v
    -- each is letterwise greater than the later ones
    pub falling : AllPairs IsLetterwiseGreater columns

  closed_none : (pending : List (List ℕ)) → ClosedFrom [] pending
  closed_none pending = record {
    columns = [];
    among = λ w m. m;
    inside = λ w m. absurd (Contains-none w m);
    complete = λ w m n. n;
    closed = λ w v r m h n k. k;
    falling = AllPairs-nil IsLetterwiseGreater;
  }

  module _ (x : List ℕ) (ws pending : List (List ℕ)) (falls : AllPairs IsLetterwiseGreater (x ∷ ws)) where
    greater_than : (w : List ℕ) → Contains ws w → IsLetterwiseGreater x w
    greater_than w m = All-contains (IsLetterwiseGreater x) ws w (AllPairs-first IsLetterwiseGreater x ws falls) m

    -- the first word is in the closure
    with_first : IsInClosure G words x → ClosedFrom ws (brings x ++ pending) → ClosedFrom (x ∷ ws) pending
    with_first first c = record {
      columns = x ∷ c.columns;
      among = λ w m. elim (Contains-cases x c.columns w m) [
        | inl e ↦ subst (Contains (x ∷ ws)) e (Contains-first x ws)
        | inr n ↦ Contains-more x ws w (c.among w n)
      ];
      inside = λ w m. elim (Contains-cases x c.columns w m) [
        | inl e ↦ subst (IsInClosure G words) e first
        | inr n ↦ c.inside w n
      ];
      complete = λ w m n. elim (Contains-cases x ws w n) [
        | inl e ↦ subst (Contains (x ∷ c.columns)) e (Contains-first x c.columns)
        | inr k ↦ Contains-more x c.columns w (c.complete w (Contains-append_right (brings x) pending w m) k)
      ];
      closed = λ w v r m h n k. elim (Contains-cases x ws v k) [
        | inl e ↦ subst (Contains (x ∷ c.columns)) e (Contains-first x c.columns)
        | inr later ↦ elim (Contains-cases x c.columns w m) [
          | inl is ↦
              let by_first : IsReducer G x r = subst (λ (u : List ℕ). IsReducer G u r) (sym is) h in
              Contains-more x c.columns v (c.complete v (Contains-append_left (brings x) pending v (brings_all x v r by_first n)) later)
          | inr j ↦ Contains-more x c.columns v (c.closed w v r j h n later)
        ]
      ];
      falling = AllPairs-cons IsLetterwiseGreater x c.columns
          (All-from_members (IsLetterwiseGreater x) c.columns (λ w m. greater_than w (c.among w m))) c.falling;
    }

    -- it is not pending, so no later word brings it
    without_first : (Contains pending x → ⊥) → ClosedFrom ws pending → ClosedFrom (x ∷ ws) pending
    without_first other c = record {
      columns = c.columns;
      among = λ w m. Contains-more x ws w (c.among w m);
      inside = c.inside;
      complete = λ w m n. elim (Contains-cases x ws w n) [
        | inl e ↦ absurd (other (subst (Contains pending) (sym e) m))
        | inr k ↦ c.complete w m k
      ];
      closed = λ w v r m h n k. elim (Contains-cases x ws v k) [
        | inl e ↦ absurd (not_back w v (greater_than w (c.among w m)) e (lower w v r h n))
        | inr later ↦ c.closed w v r m h n later
      ];
      falling = c.falling;
    }
      where
        not_back : (w v : List ℕ) → IsLetterwiseGreater x w → x ≡ v → (w ≡ v) ⊎ IsLetterwiseGreater w v → ⊥
        not_back w v above e (inl same) = letterwise-apart x w above (e ∙ sym same)
        not_back w v above e (inr less) = letterwise-apart x v (letterwise-trans x w v above less) e

  closed_from : (ws pending : List (List ℕ)) → AllPairs IsLetterwiseGreater ws → AreInside pending → ClosedFrom ws pending
  closed_from [] pending falls inside = closed_none pending
  closed_from (x ∷ ws) pending falls inside =
      let rest = AllPairs-rest IsLetterwiseGreater x ws falls in
      elim (listed pending x) [
        | inl m ↦ with_first x ws pending falls (inside x m) (closed_from ws (brings x ++ pending) rest
            (λ w n. elim (Contains-append_cases (brings x) pending w n) [
              | inl new ↦ brings_inside x w (inside x m) new
              | inr old ↦ inside w old
            ]))
        | inr other ↦ without_first x ws pending falls other (closed_from ws pending rest inside)
      ]

  -- a list that falls and has these words and all that its own words bring
  module _ (all : List (List ℕ)) (falls : AllPairs IsLetterwiseGreater all) (has_words : (w : List ℕ) → Contains words w → Contains all w)
      (has_brought : (w v : List ℕ) (r : List Term) → Contains all w → IsReducer G w r → Contains (words_in r) v → Contains all v) where
    -- the closure of these words has a list of columns
    pub some_columns : (columns : List (List ℕ)) × AreColumns G words columns
    some_columns =
        let c = closed_from all words falls (λ w m. given w m) in
        let has : (w : List ℕ) → IsInClosure G words w → Contains c.columns w = in_columns c in
        (c.columns, record { exactly = λ w. (c.inside w, has w); falling = c.falling })
      where
        in_columns : (c : ClosedFrom all words) (w : List ℕ) → IsInClosure G words w → Contains c.columns w
        in_columns c w (given v m) = c.complete w m (has_words w m)
        in_columns c v (brought w x r inside h m) =
            let k = in_columns c w inside in
            c.closed w v r k h m (has_brought w v r (c.among w k) h m)

-- each column has its reducer or none
pub some_reducers : (G : List (List Term)) (columns : List (List ℕ)) → (reducers : List (Option (List Term))) × AllZip (HasReducer G) columns reducers
some_reducers G [] = ([], tt)
some_reducers G (w ∷ ws) =
    let h = has_reducers G w in
    let r = some_reducers G ws in
    (h.first ∷ r.0, (h.is_first, r.1))
