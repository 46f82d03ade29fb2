-- Steps of the numbers and lists of the words of all degrees.
use Rattle.std.proofs.Common.{◌≡◌, ◌≢◌, ◌+◌, ◌-◌, ◌<◌, ◌≤◌, ℕ, zero, suc, Bool, cond, leb, List, [], ◌∷◌, ◌++◌, map, length, take, get_or}
use Rattle.std.proofs.Common.{min, refl, sym, ap, ◌∙◌, inl, inr, arith, subst, length-append, append-nil, add-one, add-zero, zero-add}
use Rattle.std.specs.List.{Contains, flat_map, range_with_len}
use Rattle.std.proofs.lemmas.Bool.{cases_Bool, cases_eq, le-leb, leb-true, lt-leb}
use Rattle.std.proofs.lemmas.List.{get_or_append_left, get_or_push, length-map, length_push, take_more}
use Rattle.std.proofs.lemmas.List.Concat.{flat_map-append}
use Rattle.words.specs.Words.{AreWeights, degree_of, weight_of, with_letter, words_of_degree}
use Rattle.words.proofs.Degrees.{listed_word, range-bounds, words_of_degree-says, words_of_degree-unfolds}
use Rattle.words.proofs.Members.{Contains-first, Contains-more, Contains-none}
use Rattle.words.proofs.Weights.{weight_of-bounds}
use Rattle.std.proofs.lemmas.List.Elements.{All-cons}
use Rattle.degree_words.specs.Lists.{AreLists, list_at}

range_suc : (a n : ℕ) → range_with_len a (suc n) ≡ range_with_len a n ++ (a + n) ∷ []
range_suc a zero = ap (λ (k : ℕ). k ∷ []) (sym (add-zero a))
range_suc a (suc n) = ap (λ (r : List ℕ). a ∷ r) (range_suc (a + 1) n ∙ ap (λ (k : ℕ). range_with_len (a + 1) n ++ k ∷ []) (omega arith))

range_more : (n : ℕ) → range_with_len 0 (n + 1) ≡ range_with_len 0 n ++ n ∷ []
range_more n = ap (range_with_len 0) (add-one n) ∙ range_suc 0 n ∙ ap (λ (k : ℕ). range_with_len 0 n ++ k ∷ []) (zero-add n)

module _ {X Y : Type 0} (f : X → List Y) where
  -- with one member more behind a list its list stands behind all the lists joined
  pub flat_map-push : (xs : List X) (x : X) → flat_map f (xs ++ x ∷ []) ≡ flat_map f xs ++ f x
  flat_map-push xs x = flat_map-append f xs (x ∷ []) ∙ ap (λ (r : List Y). flat_map f xs ++ r) (append-nil (f x))

  -- the lists of the first i + 1 members joined are those of the first i, and then that of the member at place i
  pub flat_map-take : (xs : List X) (i : ℕ) (x : X) → i < length xs → x ≡ get_or xs i x → flat_map f (take (i + 1) xs) ≡ flat_map f (take i xs) ++ f x
  flat_map-take xs i x within is = ap (flat_map f) (take_more xs i x within ∙ ap (λ (y : X). take i xs ++ y ∷ []) (sym is)) ∙ flat_map-push (take i xs) x

  flat_map-same : (g : X → List Y) (xs : List X) → ((x : X) → Contains xs x → f x ≡ g x) → flat_map f xs ≡ flat_map g xs
  flat_map-same g [] h = refl
  flat_map-same g (x ∷ xs) h = let first : f x ≡ g x = h x (Contains-first x xs) in let rest =
      flat_map-same g xs (λ y m. h y (Contains-more x xs y m)) in λ i. first i ++ rest i

-- the lists of the numbers up to n joined are those of the numbers below n, and then that of n
pub flat_map-range : {Y : Type 0} (f : ℕ → List Y) (n : ℕ) → flat_map f (range_with_len 0 (n + 1)) ≡ flat_map f (range_with_len 0 n) ++ f n
flat_map-range f n = ap (flat_map f) (range_more n) ∙ flat_map-push f (range_with_len 0 n) n

module _ (weights : List ℕ) (W : ℕ → List (List ℕ)) (k x : ℕ) where
  -- where the weight of x is at most k, the words of degree k that begin with x are x before each word of the degree that is left
  pub with_letter-in : weight_of weights x ≤ k → with_letter weights W k x ≡ map (λ w. x ∷ w) (W (k - weight_of weights x))
  with_letter-in le = ap (λ (b : Bool). cond b (map (λ w. x ∷ w) (W (k - weight_of weights x))) []) (le-leb (weight_of weights x) k le)

  -- where the weight of x is above k, no words of degree k begin with x
  pub with_letter-out : k < weight_of weights x → with_letter weights W k x ≡ []
  with_letter-out lt = ap (λ (b : Bool). cond b (map (λ w. x ∷ w) (W (k - weight_of weights x))) []) (lt-leb (weight_of weights x) k lt)

  abbrev pub before_letter : ℕ → List (List ℕ)
  before_letter n = flat_map (with_letter weights W k) (range_with_len 0 n)

  -- up to a most, letters up to x begin as many words as letters below x begin and the degree left for x has, where its weight is at most k
  pub count_more : (most count entry : ℕ) → weight_of weights x ≤ k → count ≡ min (length (before_letter x)) most →
      entry ≡ min (length (W (k - weight_of weights x))) most
      → min (count + entry) most ≡ min (length (before_letter (x + 1))) most
  count_more most count entry le c e =
      let sizes : length (before_letter (x + 1)) ≡ length (before_letter x) + length (W (k - weight_of weights x)) =
      ap length (flat_map-range (with_letter weights W k) x) ∙ length-append (before_letter x) (with_letter weights W k x)
      ∙ ap (λ (n : ℕ). length (before_letter x) + n) (ap length (with_letter-in le) ∙ length-map (W (k - weight_of weights x)) (λ w. x ∷ w)) in
      omega (arith, sizes, c, e)

  -- where the weight of x is above k, the letters up to x begin as many words as the letters below x, counted up to a most
  pub count_same : (most count : ℕ) → k < weight_of weights x → count ≡ min (length (before_letter x)) most → count ≡ min (length (before_letter (x + 1))) most
  count_same most count lt c =
      c ∙ ap (λ (ws : List (List ℕ)). min (length ws) most) (sym (flat_map-range (with_letter weights W k) x
      ∙ ap (λ (ws : List (List ℕ)). before_letter x ++ ws) (with_letter-out lt) ∙ append-nil (before_letter x)))

  -- where the weight of x is at most k, the words of letters below x, and x before each word of the degree left, are those of letters up to x
  pub list_more : (ws : List (List ℕ)) → weight_of weights x ≤ k → ws ≡ before_letter x →
      ws ++ map (λ w. x ∷ w) (W (k - weight_of weights x)) ≡ before_letter (x + 1)
  list_more ws le e = ap (λ (vs : List (List ℕ)). vs ++ map (λ w. x ∷ w) (W (k - weight_of weights x))) e
      ∙ sym (flat_map-range (with_letter weights W k) x ∙ ap (λ (vs : List (List ℕ)). before_letter x ++ vs) (with_letter-in le))

  -- where the weight of x is above k, the words that the letters up to x begin are those that the letters below x begin
  pub list_same : (ws : List (List ℕ)) → k < weight_of weights x → ws ≡ before_letter x → ws ≡ before_letter (x + 1)
  list_same ws lt e = e ∙ sym (flat_map-range (with_letter weights W k) x
      ∙ ap (λ (vs : List (List ℕ)). before_letter x ++ vs) (with_letter-out lt) ∙ append-nil (before_letter x))

-- above degree 0 the list of a degree is, for each letter in rising number, this letter before each word of the degree that is left
pub unfolds_at : (weights : List ℕ) → AreWeights weights → (k : ℕ) → 0 < k →
    words_of_degree weights k ≡ flat_map (with_letter weights (words_of_degree weights) k) (range_with_len 0 (length weights))
unfolds_at weights aw zero some = absurd (omega (arith, some))
unfolds_at weights aw (suc d) some = words_of_degree-unfolds weights aw d

-- with the list of degree k behind right lists of the degrees below k, or an empty one where it is not of use, those up to k are right
pub lists_more : (weights : List ℕ) (d k : ℕ) (lists : List (List (List ℕ))) (new : List (List ℕ)) → AreLists weights d lists k
    → (words_of_degree weights (d - k) ≢ [] → new ≡ words_of_degree weights k) → (words_of_degree weights (d - k) ≡ [] → new ≡ []) →
    AreLists weights d (lists ++ new ∷ []) (k + 1)
lists_more weights d k lists new h listed unused = record {
  size = length_push lists new ∙ ap (λ (n : ℕ). n + 1) h.size;
  listed = λ j below some. elim (cases_eq j k) [
    | inl is ↦ subst (λ (n : ℕ). list_at (lists ++ new ∷ []) n ≡ words_of_degree weights n) (sym is)
        (last ∙ listed (subst (λ (n : ℕ). words_of_degree weights (d - n) ≢ []) is some))
    | inr other ↦ earlier j (omega (arith, below, other)) ∙ h.listed j (omega (arith, below, other)) some
  ];
  unused = λ j below none. elim (cases_eq j k) [
    | inl is ↦ subst (λ (n : ℕ). list_at (lists ++ new ∷ []) n ≡ []) (sym is) (last ∙ unused (subst (λ (n : ℕ). words_of_degree weights (d - n) ≡ []) is none))
    | inr other ↦ earlier j (omega (arith, below, other)) ∙ h.unused j (omega (arith, below, other)) none
  ];
}
  where
    last : list_at (lists ++ new ∷ []) k ≡ new
    last = get_or_push lists new [] k h.size

    earlier : (j : ℕ) → j < k → list_at (lists ++ new ∷ []) j ≡ list_at lists j
    earlier j lt = get_or_append_left lists (new ∷ []) [] j (omega (arith, lt, h.size))

-- where some word has degree d - k, the list of degree k is had by its letters from the lists of the degrees below k
pub list_unfolds : (weights : List ℕ) → AreWeights weights → (d k : ℕ) (lists : List (List (List ℕ))) → 0 < k → k ≤ d →
    AreLists weights d lists k → words_of_degree weights (d - k) ≢ []
    → flat_map (with_letter weights (list_at lists) k) (range_with_len 0 (length weights)) ≡ words_of_degree weights k
list_unfolds weights aw d k lists some le h needed =
    flat_map-same (with_letter weights (list_at lists) k) (with_letter weights (words_of_degree weights) k) (range_with_len 0 (length weights)) same
    ∙ sym (unfolds_at weights aw k some)
  where
    longer : (x : ℕ) → x < length weights → (ws : List (List ℕ)) → ws ≡ words_of_degree weights (d - k) → ws ≢ [] → weight_of weights x ≤ k
        → words_of_degree weights (d - (k - weight_of weights x)) ≢ []
    longer x lt [] e ne in' none = ne refl
    longer x lt (w ∷ ws) e ne in' none =
        let says = words_of_degree-says weights aw (d - k) w (subst (λ (vs : List (List ℕ)). Contains vs w) e (Contains-first w ws)) in
        let there = listed_word weights aw (x ∷ w) (All-cons (λ y. y < length weights) x w lt says.0) in
        let deg : degree_of weights (x ∷ w) ≡ d - (k - weight_of weights x) = omega (arith, says.1, in', le) in
        Contains-none (x ∷ w) (subst (λ (vs : List (List ℕ)). Contains vs (x ∷ w)) (ap (words_of_degree weights) deg ∙ none) there)

    same : (x : ℕ) → Contains (range_with_len 0 (length weights)) x →
        with_letter weights (list_at lists) k x ≡ with_letter weights (words_of_degree weights) k x
    same x m = elim (cases_Bool (leb (weight_of weights x) k)) [
      | inl is ↦
          let in' = leb-true (weight_of weights x) k is in
          let positive = (weight_of-bounds weights aw x).0 in
          let lt = (range-bounds 0 (length weights) x m).1 in
          ap (λ (vs : List (List ℕ)). cond (leb (weight_of weights x) k) (map (λ w. x ∷ w) vs) [])
          (h.listed (k - weight_of weights x) (omega (arith, some, positive, in'))
          (longer x (omega (arith, lt)) (words_of_degree weights (d - k)) refl needed in'))
      | inr out ↦ ap (λ (b : Bool). cond b (map (λ w. x ∷ w) (list_at lists (k - weight_of weights x))) []) out
          ∙ sym (ap (λ (b : Bool). cond b (map (λ w. x ∷ w) (words_of_degree weights (k - weight_of weights x))) []) out)
    ]
