-- What the reducer of a word adds to the words by number and to the lists.
use Rattle.std.proofs.Common.{◌≡◌, ◌^◌, ◌+◌, ◌<◌, ◌≤◌, ℕ, List, [], ◌∷◌, ◌++◌, length, map, refl, sym, ap, ◌∙◌, arith, All, Some, subst}
use Rattle.std.proofs.Common.{append_assoc, length-append}
use Rattle.std.specs.List.{Contains, slice_get}
use Rattle.std.proofs.lemmas.List.{append-nil, get_or_append_left}
use Rattle.std.proofs.lemmas.List.Elements.{All-append, All-cons, All-contains, All-nil}
use Rattle.std.proofs.lemmas.Option.{get_or_from_slice_get, slice_get-get_or, slice_get_within}
use Rattle.words.specs.Words.{IsOver, degree_of}
use Rattle.words.proofs.Members.{All-from_members, Contains-map, Contains-more, Contains-none}
use Rattle.words.proofs.Weights.{length-le-degree_of}
use Rattle.free_poly.specs.declared.term.Term.{Term}
use Rattle.free_poly.specs.Poly.{IsPolynomial, lead_of}
use Rattle.free_poly.specs.Terms.{product}
use Rattle.ideal_laws.specs.Basis.{below_lead}
use Rattle.ideal_laws.specs.Closure.{IsInClosure, IsReducer, brought}
use Rattle.ideal_laws.specs.Engine.{Elements}
use Rattle.ideal_laws.specs.Kept.{IsKept}
use Rattle.symbolic_prep.specs.declared.lists.Span.{Span}
use Rattle.symbolic_prep.specs.Packing.{HasDigits}
use Rattle.symbolic_prep.specs.Walk.{tail_words}
use Rattle.symbolic_prep.specs.Numbers.{AreListed, AreTerms, IsGrown, IsLonger, StandsAt, residues_of}
use Rattle.symbolic_prep.proofs.Keys.{three_long}
use Rattle.symbolic_prep.proofs.Parts.{part_last}
use Rattle.symbolic_prep.proofs.Stays.{words_of_reducer}

-- a word over so many letters has digits where the letters have
pub digits_of : (names bits : ℕ) (w : List ℕ) → names < 2 ^ bits → IsOver names w → HasDigits bits w
digits_of names bits w few over k d lt = omega (arith, few, over k d lt)

-- a word keeps its number where more words come behind
pub slice_get-more : (words more : List (List ℕ)) (n : ℕ) (w : List ℕ) → slice_get words n ≡ Some w → slice_get (words ++ more) n ≡ Some w
slice_get-more words more n w h =
    let lt = slice_get_within words n w h in
    slice_get-get_or (words ++ more) n [] (omega (arith, lt, length-append words more))
    ∙ ap Some (get_or_append_left words more [] n lt ∙ get_or_from_slice_get words n w [] h)

-- the numbers of terms are those of words
pub AreTerms-below : (words : List (List ℕ)) (ns rs : List ℕ) (ts : List Term) → AreTerms words ns rs ts → All (λ n. n < length words) ns
AreTerms-below words [] [] [] h = All-nil (λ n. n < length words)
AreTerms-below words [] [] (t ∷ ts) h = absurd h
AreTerms-below words [] (r ∷ rs) ts h = absurd h
AreTerms-below words (n ∷ ns) [] ts h = absurd h
AreTerms-below words (n ∷ ns) (r ∷ rs) [] h = absurd h
AreTerms-below words (n ∷ ns) (r ∷ rs) (t ∷ ts) h = All-cons (λ n. n < length words) n ns (slice_get_within words n t.word h.0)
    (AreTerms-below words ns rs ts h.2)

-- as many numbers as coefficients
pub AreTerms-length : (words : List (List ℕ)) (ns rs : List ℕ) (ts : List Term) → AreTerms words ns rs ts → length ns ≡ length rs
AreTerms-length words [] [] [] h = refl
AreTerms-length words [] [] (t ∷ ts) h = absurd h
AreTerms-length words [] (r ∷ rs) ts h = absurd h
AreTerms-length words (n ∷ ns) [] ts h = absurd h
AreTerms-length words (n ∷ ns) (r ∷ rs) [] h = absurd h
AreTerms-length words (n ∷ ns) (r ∷ rs) (t ∷ ts) h = omega (arith, AreTerms-length words ns rs ts h.2)

-- a multiple has the same coefficients
pub residues_of-product : (u v : List ℕ) (f : List Term) → residues_of (product u f v) ≡ residues_of f
residues_of-product u v [] = refl
residues_of-product u v (t ∷ f) = ap (λ (rs : List ℕ). t.coefficient ∷ rs) (residues_of-product u v f)

-- the words of a multiple but for the leading one are those of the multiple of the tail
pub tail_product : (u v : List ℕ) (f : List Term) → map (λ t. t.word) (product u (below_lead f) v) ≡ tail_words (Some (product u f v))
tail_product u v [] = refl
tail_product u v (t ∷ f) = refl

module _ (b : Elements) (kept : IsKept b) (forms : All IsPolynomial b.elements) (w : List ℕ) (letters : IsOver (length b.weights) w)
    (u v : List ℕ) (f : List Term) (q : IsReducer b.elements w (product u f v)) where
  d : ℕ
  d = degree_of b.weights w

  -- the parts of each word have room
  pub parts_fit : (room : ℕ) → degree_of b.weights w ≤ room → All (λ t. length u + length t.word + length v ≤ room) f
  parts_fit room fits =
      let k = words_of_reducer b kept forms (degree_of b.weights w) w (letters, refl) (product u f v) q in
      let g : Term → Term = λ (s : Term). record { word = u ++ s.word ++ v; coefficient = s.coefficient } in
      All-from_members (λ (t : Term). length u + length t.word + length v ≤ room) f (λ t m.
      let degree = All-contains (λ (s : Term). degree_of b.weights s.word ≡ degree_of b.weights w) (map g f) (g t) k.degree
      (Contains-map g f t m) in
      omega (arith, three_long u t.word v, length-le-degree_of b.weights kept.weights (u ++ t.word ++ v), degree, fits))

-- its number stands before those of the others
module _ (G : List (List Term)) (w : List ℕ) (f : List Term) (lead : lead_of f ≡ Some w) (old new : List (List ℕ))
    (grown : IsGrown old new (map (λ t. t.word) (below_lead f))) (number : ℕ) (at : slice_get old number ≡ Some w) (n0 n1 n2 : List ℕ)
    (pushed : n1 ≡ n0 ++ number ∷ []) (listed : AreListed new n1 n2 (below_lead f)) where
  numbers : n2 ≡ n0 ++ (number ∷ listed.ns)
  numbers = listed.numbers_are ∙ ap (λ (xs : List ℕ). xs ++ listed.ns) pushed ∙ append_assoc n0 (number ∷ []) listed.ns

  own : slice_get new number ≡ Some w
  own = subst (λ (ws : List (List ℕ)). slice_get ws number ≡ Some w) (sym grown.joined) (slice_get-more old grown.more number w at)

  -- the leading word is the word itself
  own_terms : (g : List Term) → lead_of g ≡ Some w → AreTerms new listed.ns (residues_of (below_lead g)) (below_lead g) →
      AreTerms new (number ∷ listed.ns) (residues_of g) g
  own_terms [] h are = cc h
  own_terms (t ∷ g) h are = (own ∙ sym h, refl, are)

  -- the reducer stands at its span
  pub stands_at : (s : Span) → length n0 ≡ s.start → length n2 ≡ s.end → slice_get (map residues_of G) s.element ≡ Some (residues_of f) →
      StandsAt new n2 (map residues_of G) s f
  stands_at s starts ends place = record {
    ns = number ∷ listed.ns;
    place = part_last n0 n2 (number ∷ listed.ns) s.start s.end numbers starts ends;
    residues_are = place;
    are_terms = own_terms f lead listed.are_terms;
  }

  -- the numbers are those that were there with more behind them
  pub longer_by : IsLonger n0 n2
  longer_by = record { more = number ∷ listed.ns; joined = numbers }

  -- their numbers are those of words
  pub below_by : All (λ n. n < length old) n0 → All (λ n. n < length new) n2
  below_by below =
      let more : length new ≡ length old + length grown.more = ap length grown.joined ∙ length-append old grown.more in
      subst (All (λ n. n < length new)) (sym numbers)
      (All-append (λ n. n < length new) n0 (number ∷ listed.ns) (λ k d inside. omega (arith, below k d inside, more))
      (All-cons (λ n. n < length new) number listed.ns (omega (arith, slice_get_within old number w at, more))
      (AreTerms-below new listed.ns (residues_of (below_lead f)) (below_lead f) listed.are_terms)))

-- a list is itself with nothing behind it
pub longer_none : {X : Type 0} (xs : List X) → IsLonger xs xs
longer_none xs = record { more = []; joined = sym (append-nil xs) }

-- what the tail brings is in the closure
pub tail_in_closure : (G : List (List Term)) (given_words : List (List ℕ)) (w : List ℕ) (f : List Term) → IsReducer G w f →
    IsInClosure G given_words w → (x : List ℕ) → Contains (map (λ t. t.word) (below_lead f)) x → IsInClosure G given_words x
tail_in_closure G given_words w [] q i x m = absurd (Contains-none x m)
tail_in_closure G given_words w (t ∷ f) q i x m = brought w x (t ∷ f) i q (Contains-more t.word (map (λ (s : Term). s.word) f) x m)

-- a word with a number is among the words
pub numbered_own : (words : List (List ℕ)) (n : ℕ) (w : List ℕ) → slice_get words n ≡ Some w → Contains words w
numbered_own words n w at = (n, slice_get_within words n w at, get_or_from_slice_get words n w w at)

-- words that are longer by those that were added
pub grown_longer : (first old new wanted : List (List ℕ)) → IsLonger first old → IsGrown old new wanted → IsLonger first new
grown_longer first old new wanted l g = record {
  more = l.more ++ g.more;
  joined = g.joined ∙ ap (λ (ws : List (List ℕ)). ws ++ g.more) l.joined ∙ append_assoc first l.more g.more;
}
