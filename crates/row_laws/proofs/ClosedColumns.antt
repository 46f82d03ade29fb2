-- The columns of a degree: they are words of the degree, the contested ones are normal, and the others have their
-- reducers.
use Rattle.std.proofs.Common.{◌≡◌, ℕ, List, [], ◌∷◌, length, inl, inr, AllPairs, Option, None, Some, subst}
use Rattle.std.specs.List.{AllZip, Contains, flat_map}
use Rattle.std.proofs.lemmas.List.Elements.{All-contains}
use Rattle.std.proofs.lemmas.List.Kept.{AllPairs-cons}
use Rattle.words.specs.Words.{IsOver, degree_of, words_of_degree}
use Rattle.words.specs.Order.{IsLetterwiseGreater}
use Rattle.words.proofs.Degrees.{lists_words, words_of_degree-says}
use Rattle.words.proofs.Members.{AllPairs-first, AllPairs-nil, AllPairs-rest, All-from_members, Contains-cases, Contains-first}
use Rattle.words.proofs.Members.{Contains-flat_map, Contains-flat_map_cases, Contains-map, Contains-map_cases, Contains-more, Contains-none}
use Rattle.free_poly.specs.declared.term.Term.{Term}
use Rattle.ideal_laws.specs.Closure.{AreColumns, HasReducer, IsInClosure, IsNormal, IsReducer, brought, given}
use Rattle.ideal_laws.specs.Ideal.{Ideal}
use Rattle.ideal_laws.specs.Laws.{IsSetting}
use Rattle.ideal_laws.specs.Overlaps.{AreLower}
use Rattle.ideal_laws.specs.Quantities.{AreRows, reducers_in, words_of, contested_words}
use Rattle.row_laws.proofs.DegreeRows.{member_word, row_member}
use Rattle.row_laws.proofs.Reducers.{reducer_inside}

module _ (G : List (List Term)) where
  -- a contested column is a column with a normal word
  pub contested_says : (columns : List (List ℕ)) (reducers : List (Option (List Term))) → AllZip (HasReducer G) columns reducers →
      (w : List ℕ) → Contains (contested_words columns reducers) w → Contains columns w × IsNormal G w
  contested_says [] reducers z w m = absurd (Contains-none w m)
  contested_says (x ∷ xs) [] z w m = absurd z
  contested_says (x ∷ xs) (None ∷ rs) z w m = elim (Contains-cases x (contested_words xs rs) w m) [
    | inl is ↦ (subst (Contains (x ∷ xs)) is (Contains-first x xs), subst (IsNormal G) is z.0)
    | inr n ↦ let r = contested_says xs rs z.1 w n in (Contains-more x xs w r.0, r.1)
  ]
  contested_says (x ∷ xs) (Some g ∷ rs) z w m = let r = contested_says xs rs z.1 w m in (Contains-more x xs w r.0, r.1)

  -- the reducers that are there are those of columns
  pub reducer_says : (columns : List (List ℕ)) (reducers : List (Option (List Term))) → AllZip (HasReducer G) columns reducers →
      (g : List Term) → Contains (reducers_in reducers) g → (w : List ℕ) × Contains columns w × IsReducer G w g
  reducer_says [] [] z g m = absurd (Contains-none g m)
  reducer_says [] (r ∷ rs) z g m = absurd z
  reducer_says (x ∷ xs) [] z g m = absurd z
  reducer_says (x ∷ xs) (None ∷ rs) z g m = let r = reducer_says xs rs z.1 g m in (r.0, Contains-more x xs r.0 r.1, r.2)
  reducer_says (x ∷ xs) (Some f ∷ rs) z g m = elim (Contains-cases f (reducers_in rs) g m) [
    | inl is ↦ (x, Contains-first x xs, subst (IsReducer G x) is z.0)
    | inr n ↦ let r = reducer_says xs rs z.1 g n in (r.0, Contains-more x xs r.0 r.1, r.2)
  ]

contested_among : (columns : List (List ℕ)) (reducers : List (Option (List Term))) (w : List ℕ) →
    Contains (contested_words columns reducers) w → Contains columns w
contested_among [] reducers w m = absurd (Contains-none w m)
contested_among (x ∷ xs) [] w m = absurd (Contains-none w m)
contested_among (x ∷ xs) (None ∷ rs) w m = elim (Contains-cases x (contested_words xs rs) w m) [
  | inl is ↦ subst (Contains (x ∷ xs)) is (Contains-first x xs)
  | inr n ↦ Contains-more x xs w (contested_among xs rs w n)
]
contested_among (x ∷ xs) (Some g ∷ rs) w m = Contains-more x xs w (contested_among xs rs w m)

-- contested columns keep the order of the columns
pub contested_falling : (columns : List (List ℕ)) (reducers : List (Option (List Term))) → AllPairs IsLetterwiseGreater columns →
    AllPairs IsLetterwiseGreater (contested_words columns reducers)
contested_falling [] reducers h = AllPairs-nil IsLetterwiseGreater
contested_falling (x ∷ xs) [] h = AllPairs-nil IsLetterwiseGreater
contested_falling (x ∷ xs) (None ∷ rs) h =
    AllPairs-cons IsLetterwiseGreater x (contested_words xs rs)
    (All-from_members (IsLetterwiseGreater x) (contested_words xs rs)
    (λ y m. All-contains (IsLetterwiseGreater x) xs y (AllPairs-first IsLetterwiseGreater x xs h) (contested_among xs rs y m)))
    (contested_falling xs rs (AllPairs-rest IsLetterwiseGreater x xs h))
contested_falling (x ∷ xs) (Some g ∷ rs) h = contested_falling xs rs (AllPairs-rest IsLetterwiseGreater x xs h)

module _ (ideal : Ideal) (st : IsSetting ideal) (d : ℕ) (G : List (List Term)) (lower : AreLower ideal d G) where
  -- a word in the letters of the ideal that has degree d is among the words of degree d
  pub in_degree : (w : List ℕ) → IsOver (length ideal.weights) w → degree_of ideal.weights w ≡ d → Contains (words_of_degree ideal.weights d) w
  in_degree w over e = (lists_words ideal.weights st.are_weights d w).1 (over, e)

  -- each word of the closure of the rows has the degree
  pub closure_word : (rows : List (List Term)) → AreRows ideal G d rows → (w : List ℕ) → IsInClosure G (words_of rows) w →
      Contains (words_of_degree ideal.weights d) w
  closure_word rows are w (given v m) =
      let t = Contains-map_cases (λ (s : Term). s.word) (flat_map (λ f. f) rows) w m in
      let f = Contains-flat_map_cases (λ f. f) rows t.0 t.1 in
      subst (Contains (words_of_degree ideal.weights d)) t.2 (member_word ideal st d f.0
      (row_member ideal st d G lower rows are f.0 f.1) t.0 f.2)
  closure_word rows are w (brought v u reducer h r m) =
      let says = words_of_degree-says ideal.weights st.are_weights d v (closure_word rows are v h) in
      let e = (reducer_inside ideal st d G lower v reducer says.0 says.1 r).element in
      let t = Contains-map_cases (λ (s : Term). s.word) reducer w m in
      subst (Contains (words_of_degree ideal.weights d)) t.2
      (in_degree t.0.word (All-contains (λ (s : Term). IsOver (length ideal.weights) s.word) reducer t.0 e.letters t.1)
      (All-contains (λ (s : Term). degree_of ideal.weights s.word ≡ d) reducer t.0 e.degree t.1))

  -- the columns of the rows: they have the degree, and the words of the rows are among them
  module _ (rows : List (List Term)) (are : AreRows ideal G d rows) (columns : List (List ℕ)) (are_columns : AreColumns G (words_of rows) columns) where
    -- each column is one of the words of degree d
    pub column_word : (w : List ℕ) → Contains columns w → Contains (words_of_degree ideal.weights d) w
    column_word w m = closure_word rows are w ((are_columns.exactly w).0 m)

    -- each column is in the letters of the ideal and has degree d
    pub column_says : (w : List ℕ) → Contains columns w → IsOver (length ideal.weights) w × (degree_of ideal.weights w ≡ d)
    column_says w m = words_of_degree-says ideal.weights st.are_weights d w (column_word w m)

    -- each word of a row is a column
    pub row_column : (f : List Term) → Contains rows f → (t : Term) → Contains f t → Contains columns t.word
    row_column f m t n = (are_columns.exactly t.word).1
        (given t.word (Contains-map (λ (s : Term). s.word) (flat_map (λ g. g) rows) t (Contains-flat_map (λ g. g) rows f t m n)))
