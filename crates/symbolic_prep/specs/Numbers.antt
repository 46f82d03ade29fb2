-- The words of a closure by number: each word once, in the order in which they came.
use Rattle.std.specs.Prelude.{ℕ, ◌≡◌, ◌≢◌, ◌+◌, ◌<◌, ◌≤◌, min, All, List, [], ◌∷◌, ◌++◌, AllPairs, Contains, Option}
use Rattle.std.specs.Prelude.{Some, None, map, length, take}
use Rattle.std.specs.Prelude.{slice_get, slice_index_or, slice_range}
use Rattle.std.specs.List.{AllZip}
use Rattle.free_poly.specs.declared.term.Term.{Term}
use Rattle.ideal_laws.specs.Closure.{HasReducer, IsInClosure, IsReducer}
use Rattle.ideal_laws.specs.Quantities.{reducers_in, terms_in}
use Rattle.symbolic_prep.specs.declared.lists.Span.{Span}
use Rattle.symbolic_prep.specs.Walk.{count_terms, tail_words}

-- all of these words are in the closure, none of them stands twice, and those that the first ones bring are there
pub record IsNumbered (G : List (List Term)) (given words : List (List ℕ)) (next : ℕ)
    (reducers : List (Option (List Term))) : Type 0 where
  pub within : next ≤ length words
  pub sound : (w : List ℕ) → Contains words w → IsInClosure G given w
  pub has : (w : List ℕ) → Contains given w → Contains words w
  pub brought : (w v : List ℕ) (r : List Term) → Contains (take next words) w → IsReducer G w r →
      Contains (map (λ t. t.word) r) v → Contains words v
  pub are_reducers : AllZip (HasReducer G) (take next words) reducers
  pub apart : AllPairs (λ v w. v ≢ w) words

-- the same words with their numbers, and then some of these, which are all there
pub record IsGrown (old new wanted : List (List ℕ)) : Type 0 where
  pub more : List (List ℕ)
  pub joined : new ≡ old ++ more
  pub from : (w : List ℕ) → Contains more w → Contains wanted w
  pub all : (w : List ℕ) → Contains wanted w → Contains new w
  pub apart : AllPairs (λ v w. v ≢ w) new

-- the numbers of the words of some terms, and their coefficients
abbrev pub AreTerms : List (List ℕ) → List ℕ → List ℕ → List Term → Type 0
AreTerms words [] [] [] = Unit {0}
AreTerms words [] [] (t ∷ ts) = ⊥
AreTerms words [] (r ∷ rs) ts = ⊥
AreTerms words (n ∷ ns) [] ts = ⊥
AreTerms words (n ∷ ns) (r ∷ rs) [] = ⊥
AreTerms words (n ∷ ns) (r ∷ rs) (t ∷ ts) = (slice_get words n ≡ Some t.word) × (r ≡ t.coefficient)
    × AreTerms words ns rs ts

-- the terms that have these numbers and coefficients
abbrev pub terms_on : List (List ℕ) → List ℕ → List ℕ → List Term
terms_on words [] rs = []
terms_on words (n ∷ ns) [] = []
terms_on words (n ∷ ns) (r ∷ rs) = record { word = slice_index_or words n []; coefficient = r } ∷ terms_on words ns rs

-- the coefficients of some terms
abbrev pub residues_of : List Term → List ℕ
residues_of f = map (λ t. t.coefficient) f

-- numbers with those of the words of some terms behind them
pub record AreListed (words : List (List ℕ)) (numbers more : List ℕ) (terms : List Term) : Type 0 where
  pub ns : List ℕ
  pub numbers_are : more ≡ numbers ++ ns
  pub are_terms : AreTerms words ns (residues_of terms) terms

-- a part of a list, from one place to another
pub record IsPart {X : Type 0} (xs part : List X) (start end : ℕ) : Type 0 where
  pub before : List X
  pub behind : List X
  pub joined : xs ≡ before ++ part ++ behind
  pub starts : length before ≡ start
  pub ends : start + length part ≡ end

-- the words of a reducer stand from one place to another, and its coefficients are those of an element
pub record StandsAt (words : List (List ℕ)) (numbers : List ℕ) (residues : List (List ℕ)) (span : Span)
    (terms : List Term) : Type 0 where
  pub ns : List ℕ
  pub place : IsPart numbers ns span.start span.end
  pub residues_are : slice_get residues span.element ≡ Some (residues_of terms)
  pub are_terms : AreTerms words ns (residues_of terms) terms

-- a reducer stands there, or there is none
abbrev pub IsSpanOf : List (List ℕ) → List ℕ → List (List ℕ) → Option Span → Option (List Term) → Type 0
IsSpanOf words numbers residues None None = Unit {0}
IsSpanOf words numbers residues None (Some f) = ⊥
IsSpanOf words numbers residues (Some s) None = ⊥
IsSpanOf words numbers residues (Some s) (Some f) = StandsAt words numbers residues s f

-- a list with more behind it
pub record IsLonger {X : Type 0} (xs longer : List X) : Type 0 where
  pub more : List X
  pub joined : longer ≡ xs ++ more

-- what the reducer of a word, if it has one, adds to the words, their numbers and the entries
pub record IsReducedTo (G : List (List Term)) (word : List ℕ) (old new : List (List ℕ))
    (numbers more_numbers : List ℕ) (entries limit : ℕ) (span : Option Span) (more : ℕ) : Type 0 where
  pub reducer : Option (List Term)
  pub is : HasReducer G word reducer
  pub grown : IsGrown old new (tail_words reducer)
  pub count : more ≡ min (entries + count_terms reducer) (limit + 1)
  pub longer : more ≤ limit → IsLonger numbers more_numbers
  pub below : more ≤ limit → All (λ n. n < length old) numbers → All (λ n. n < length new) more_numbers
  pub stands : more ≤ limit → IsSpanOf new more_numbers (map residues_of G) span reducer

-- words by number with their reducers, and the entries of these with those that were there, cut above the limit
pub record IsNumberWalk (G : List (List Term)) (given words : List (List ℕ)) (next from limit : ℕ)
    (spans : List (Option Span)) (numbers : List ℕ) (entries : ℕ) : Type 0 where
  pub reducers : List (Option (List Term))
  pub numbered : IsNumbered G given words next reducers
  pub count : entries ≡ min (from + terms_in (reducers_in reducers)) (limit + 1)
  pub size : length spans ≡ length reducers
  pub listed : entries ≤ limit → AllZip (IsSpanOf words numbers (map residues_of G)) spans reducers
  pub below : entries ≤ limit → All (λ n. n < length words) numbers

-- the reducer that stands in the lists, if one does
abbrev pub reducer_on : List (List ℕ) → List ℕ → List (List ℕ) → Option Span → Option (List Term)
reducer_on words numbers residues None = None
reducer_on words numbers residues (Some s) = Some (terms_on words (slice_range numbers s.start s.end)
    (slice_index_or residues s.element []))

-- a span is within the lists, and its numbers are those of words
abbrev pub IsSpanWithin : ℕ → List ℕ → List (List ℕ) → Option Span → Type 0
IsSpanWithin count numbers residues None = Unit {0}
IsSpanWithin count numbers residues (Some s) = (s.start < s.end) × (s.end ≤ length numbers)
    × (s.element < length residues) × (s.start + length (slice_index_or residues s.element []) ≡ s.end)
    × All (λ n. n < count) (slice_range numbers s.start s.end)

-- the same words in another order, each with its reducer or none
pub record IsListing (words : List (List ℕ)) (reducers : List (Option (List Term))) (columns : List (List ℕ))
    (columns_reducers : List (Option (List Term))) : Type 0 where
  pub size : length columns_reducers ≡ length columns
  pub from : (c : ℕ) → c < length columns → (n : ℕ) × (n < length words) × (slice_get words n ≡ slice_get columns c)
      × (slice_get reducers n ≡ slice_get columns_reducers c)
  pub all : (w : List ℕ) → Contains words w → Contains columns w
