-- The list of the words of a degree has exactly the words of the degree, and falls, so that it has each once.
use Rattle.std.proofs.Common.{◌≡◌, ◌+◌, ◌-◌, ◌<◌, ◌≤◌, ℕ, zero, suc, Bool, true, false, cond, leb, List, [], ◌∷◌, map, length, refl, sym, ap, ◌∙◌}
use Rattle.std.proofs.Common.{inl, inr, arith, All, AllPairs, subst}
use Rattle.std.specs.List.{Contains, flat_map, range_with_len}
use Rattle.std.proofs.lemmas.Bool.{cases_eq, cases_Bool, leb-true, le-leb}
use Rattle.std.proofs.lemmas.List.Elements.{All-cons, All-head, All-nil, All-tail}
use Rattle.std.proofs.lemmas.List.Kept.{AllPairs-cons}
use Rattle.words.specs.Words.{AreWeights, IsOver, degree_of, weight_of, with_letter, words_of_degree, words_within}
use Rattle.words.specs.Order.{HasSmallerFirst, IsGreater, IsLetterwiseGreater, ListsWords}
use Rattle.words.proofs.OrderFacts.{agrees_in_degree, greater_says, letterwise_from_difference, self_cmp}
use Rattle.words.proofs.Weights.{length-le-degree_of, weight_of-bounds}
use Rattle.words.proofs.Members.{AllPairs-flat_map, AllPairs-map, AllPairs-nil, All-from_members, Contains-cases, Contains-first, Contains-flat_map}
use Rattle.words.proofs.Members.{Contains-flat_map_cases, Contains-map, Contains-map_cases, Contains-more, Contains-none}

-- the range of n numbers from a contains each number that is at least a and below a + n
pub Contains-range : (a n k : ℕ) → a ≤ k → k < a + n → Contains (range_with_len a n) k
Contains-range a zero k low high = absurd (omega (arith, low, high))
Contains-range a (suc n) k low high = elim (cases_eq a k) [
  | inl e ↦ subst (Contains (range_with_len a (suc n))) e (Contains-first a (range_with_len (a + 1) n))
  | inr other ↦ Contains-more a (range_with_len (a + 1) n) k (Contains-range (a + 1) n k (omega (arith, low, other)) (omega (arith, high)))
]

-- what the range of n numbers from a contains is at least a and below a + n
pub range-bounds : (a n k : ℕ) → Contains (range_with_len a n) k → (a ≤ k) × (k < a + n)
range-bounds a zero k h = absurd (Contains-none k h)
range-bounds a (suc n) k h = elim (Contains-cases a (range_with_len (a + 1) n) k h) [
  | inl e ↦ (omega (arith, e), omega (arith, e))
  | inr m ↦ let r = range-bounds (a + 1) n k m in (omega (arith, r.0), omega (arith, r.1))
]

-- a range rises
pub range-rising : (a n : ℕ) → AllPairs (λ x y. x < y) (range_with_len a n)
range-rising a zero = AllPairs-nil (λ x y. x < y)
range-rising a (suc n) =
    AllPairs-cons (λ x y. x < y) a (range_with_len (a + 1) n) (All-from_members (λ y. a < y) _
    (λ y m. omega (arith, (range-bounds (a + 1) n y m).0))) (range-rising (a + 1) n)

module _ (weights : List ℕ) where
  -- a letter of weight at most d before a word of the degree that is left is one of the words that begin with this letter
  pub in_letter : (W : ℕ → List (List ℕ)) (d x : ℕ) (w : List ℕ) → weight_of weights x ≤ d → Contains (W (d - weight_of weights x)) w →
      Contains (with_letter weights W d x) (x ∷ w)
  in_letter W d x w le m = rw (le-leb _ _ le) (Contains-map (λ v. x ∷ v) (W (d - weight_of weights x)) w m)

  -- each word that begins with a letter is this letter, whose weight is at most d, before a word of the degree that is left
  pub letter_cases : (W : ℕ → List (List ℕ)) (d x : ℕ) (w : List ℕ) → Contains (with_letter weights W d x) w
      → (weight_of weights x ≤ d) × ((v : List ℕ) × Contains (W (d - weight_of weights x)) v × ((x ∷ v) ≡ w))
  letter_cases W d x w h = elim (cases_Bool (leb (weight_of weights x) d)) [
    | inl is ↦ (
      leb-true _ _ is,
      Contains-map_cases (λ v. x ∷ v) (W (d - weight_of weights x)) w
          (subst (λ (b : Bool). Contains (cond b (map (λ v. x ∷ v) (W (d - weight_of weights x))) []) w) is h),
    )
    | inr other ↦ absurd (Contains-none w (subst (λ (b : Bool). Contains (cond b (map (λ v. x ∷ v) (W (d - weight_of weights x))) []) w) other h))
  ]

  module _ (aw : AreWeights weights) where
    positive : (x : ℕ) → 0 < weight_of weights x
    positive x = (weight_of-bounds weights aw x).0

    -- each word with at most so many letters
    listed_within : (n d : ℕ) (w : List ℕ) → IsOver (length weights) w → degree_of weights w ≡ d → length w ≤ n → Contains (words_within weights n d) w
    listed_within n zero [] over e le = Contains-first [] []
    listed_within n zero (x ∷ w) over e le = absurd (omega (arith, e, positive x))
    listed_within n (suc d) [] over e le = absurd (omega (arith, e))
    listed_within zero (suc d) (x ∷ w) over e le = absurd (omega (arith, le))
    listed_within (suc n) (suc d) (x ∷ w) over e le =
        Contains-flat_map (with_letter weights (words_within weights n) (suc d)) (range_with_len 0 (length weights)) x (x ∷ w)
        (Contains-range 0 (length weights) x (omega arith) (omega (arith, All-head (λ y. y < length weights) x w over)))
        (in_letter (words_within weights n) (suc d) x w (omega (arith, e))
        (listed_within n (suc d - weight_of weights x) w (All-tail (λ y. y < length weights) x w over) (omega (arith, e)) (omega (arith, le))))

    -- each word over the letters is in the list of its degree
    pub listed_word : (w : List ℕ) → IsOver (length weights) w → Contains (words_of_degree weights (degree_of weights w)) w
    listed_word w over = listed_within (degree_of weights w) (degree_of weights w) w over refl (length-le-degree_of weights aw w)

    within-says : (n d : ℕ) (w : List ℕ) → Contains (words_within weights n d) w → IsOver (length weights) w × (degree_of weights w ≡ d)
    within-says n zero w h = elim (Contains-cases [] [] w h) [
      | inl e ↦ (subst (IsOver (length weights)) e (All-nil (λ y. y < length weights)), ap (degree_of weights) (sym e))
      | inr m ↦ absurd (Contains-none w m)
    ]
    within-says zero (suc d) w h = absurd (Contains-none w h)
    within-says (suc n) (suc d) w h =
        let r = Contains-flat_map_cases (with_letter weights (words_within weights n) (suc d)) (range_with_len 0 (length weights)) w h in
        let m = letter_cases (words_within weights n) (suc d) r.0 w r.2 in
        let tail = within-says n (suc d - weight_of weights r.0) m.1.0 m.1.1 in (
          subst (IsOver (length weights)) m.1.2 (All-cons (λ y. y < length weights) r.0 m.1.0
              (omega (arith, (range-bounds 0 (length weights) r.0 r.1).1)) tail.0),
          ap (degree_of weights) (sym m.1.2) ∙ omega (arith, m.0, tail.1),
        )

    -- each word of the list of degree d is over the letters and has degree d
    pub words_of_degree-says : (d : ℕ) (w : List ℕ) → Contains (words_of_degree weights d) w → IsOver (length weights) w × (degree_of weights w ≡ d)
    words_of_degree-says d w h = within-says d d w h

    -- of two words the one that is greater letter by letter stays so behind one more letter
    pub letterwise_later : (x : ℕ) (a b : List ℕ) → IsLetterwiseGreater a b → IsLetterwiseGreater (x ∷ a) (x ∷ b)
    letterwise_later x a b g = rw (self_cmp x) g

    with_letter-falling : (W : ℕ → List (List ℕ)) (d x : ℕ) → ((e : ℕ) → AllPairs IsLetterwiseGreater (W e)) →
        AllPairs IsLetterwiseGreater (with_letter weights W d x)
    with_letter-falling W d x h = by_test (leb (weight_of weights x) d)
      where
        by_test : (b : Bool) → AllPairs IsLetterwiseGreater (cond b (map (λ v. x ∷ v) (W (d - weight_of weights x))) [])
        by_test true = AllPairs-map (λ v. x ∷ v) IsLetterwiseGreater IsLetterwiseGreater (letterwise_later x) (W (d - weight_of weights x))
            (h (d - weight_of weights x))
        by_test false = AllPairs-nil IsLetterwiseGreater

    across : (W : ℕ → List (List ℕ)) (d x y : ℕ) (u v : List ℕ) → x < y → Contains (with_letter weights W d x) u →
        Contains (with_letter weights W d y) v → IsLetterwiseGreater u v
    across W d x y u v below m n =
        let a = letter_cases W d x u m in
        let b = letter_cases W d y v n in
        let first : HasSmallerFirst (x ∷ a.1.0) (y ∷ b.1.0) = record
        { at = 0; in_first = omega arith; in_second = omega arith; same_before = refl; smaller = below } in
        subst (λ (w : List ℕ). IsLetterwiseGreater w v) a.1.2 (subst (λ (w : List ℕ). IsLetterwiseGreater (x ∷ a.1.0) w) b.1.2
        (letterwise_from_difference _ _ first))

    within-falling : (n d : ℕ) → AllPairs IsLetterwiseGreater (words_within weights n d)
    within-falling n zero = AllPairs-cons IsLetterwiseGreater [] [] (All-nil (IsLetterwiseGreater [])) (AllPairs-nil IsLetterwiseGreater)
    within-falling zero (suc d) = AllPairs-nil IsLetterwiseGreater
    within-falling (suc n) (suc d) =
        AllPairs-flat_map (with_letter weights (words_within weights n) (suc d)) (λ x y. x < y) IsLetterwiseGreater
        (λ x. with_letter-falling (words_within weights n) (suc d) x (within-falling n))
        (across (words_within weights n) (suc d)) (range_with_len 0 (length weights)) (range-rising 0 (length weights))

    -- the list of a degree falls letter by letter
    pub words_of_degree-falling : (d : ℕ) → AllPairs IsLetterwiseGreater (words_of_degree weights d)
    words_of_degree-falling d = within-falling d d

    -- more letters than the degree give no more words
    within-more : (n m d : ℕ) → d ≤ n → d ≤ m → words_within weights n d ≡ words_within weights m d
    within-more n m zero le le' = refl
    within-more zero m (suc d) le le' = absurd (omega (arith, le))
    within-more (suc n) zero (suc d) le le' = absurd (omega (arith, le'))
    within-more (suc n) (suc m) (suc d) le le' =
        let less : (x : ℕ) → words_within weights n (suc d - weight_of weights x) ≡ words_within weights m (suc d - weight_of weights x) =
        λ x. within-more n m (suc d - weight_of weights x) (omega (arith, le, positive x)) (omega (arith, le', positive x)) in
        λ i. flat_map (λ x. cond (leb (weight_of weights x) (suc d)) (map (λ w. x ∷ w) (less x i)) []) (range_with_len 0 (length weights))

    -- above degree 0 the list of a degree is, for each letter in rising number, this letter before each word of the degree that is left
    pub words_of_degree-unfolds : (d : ℕ) → words_of_degree weights (suc d)
        ≡ flat_map (with_letter weights (words_of_degree weights) (suc d)) (range_with_len 0 (length weights))
    words_of_degree-unfolds d = λ i. flat_map (λ x. same x i) (range_with_len 0 (length weights))
      where
        same : (x : ℕ) → with_letter weights (words_within weights d) (suc d) x ≡ with_letter weights (words_of_degree weights) (suc d) x
        same x = ap (λ (ws : List (List ℕ)). cond (leb (weight_of weights x) (suc d)) (map (λ w. x ∷ w) ws) [])
            (within-more d (suc d - weight_of weights x) (suc d - weight_of weights x) (omega (arith, positive x)) (omega arith))

    -- the list of a degree falls in the order of words
    pub words_of_degree-order : (d : ℕ) → AllPairs (IsGreater weights) (words_of_degree weights d)
    words_of_degree-order d i j x below within =
        let degrees : All (λ w. degree_of weights w ≡ d) (words_of_degree weights d) =
        All-from_members (λ w. degree_of weights w ≡ d) _ (λ w m. (words_of_degree-says d w m).1) in
        greater_says weights aw _ _ (agrees_in_degree weights _ _ (degrees i x (omega (arith, below, within)) ∙ sym (degrees j x within))
        ∙ words_of_degree-falling d i j x below within)

-- a word is in the list of degree d exactly where it is over the letters and has degree d
pub lists_words : ListsWords
lists_words weights aw d w = (
  words_of_degree-says weights aw d w,
  λ h. subst (λ (n : ℕ). Contains (words_of_degree weights n) w) h.1 (listed_word weights aw w h.0),
)
