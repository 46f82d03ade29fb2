-- Triples are counted by the numbers of words of each degree, and listed from the words of use.
use Rattle.std.proofs.Common.{ap₂, ◌≡◌, ◌+◌, ◌-◌, ◌*◌, ◌<◌, ◌≤◌, ℕ, zero, suc, List, [], ◌∷◌, ◌++◌, length, map, take, get_or, min, refl, sym, ap}
use Rattle.std.proofs.Common.{◌∙◌, inl, inr, arith, add-one, mul-zero, zero-mul, append-nil, append_assoc, length-append}
use Rattle.std.specs.List.{flat_map}
use Rattle.std.proofs.lemmas.Bool.{cases_lt}
use Rattle.std.proofs.lemmas.Nat.{mul-le}
use Rattle.std.proofs.lemmas.List.{length-map, take_more, length-take}
use Rattle.words.specs.Words.{words_of_degree}
use Rattle.free_poly.specs.declared.term.Term.{Term}
use Rattle.degree_words.specs.Lists.{AreLists, list_at}
use Rattle.cofactors.specs.declared.product.Product.{Product}
use Rattle.cofactors.specs.ProductList.{numbers_below, right_triples, round_triples, triple, triples_at, triples_from}

-- a list for each item, all of one length
length-flat_map : {X Y : Type 0} (f : X → List Y) (n : ℕ) → ((x : X) → length (f x) ≡ n) → (xs : List X) → length (flat_map f xs) ≡ length xs * n
length-flat_map f n h [] = sym (zero-mul n)
length-flat_map f n h (x ∷ xs) = length-append (f x) (flat_map f xs) ∙ ap₂ (λ (a b : ℕ). a + b) (h x) (length-flat_map f n h xs) ∙ omega arith

-- as many as there are words before and behind
pub length-rounds : (weights : List ℕ) (i n a : ℕ) → length (round_triples weights i n a)
    ≡ length (words_of_degree weights a) * length (words_of_degree weights (n - a))
length-rounds weights i n a = length-flat_map (right_triples weights i (n - a)) (length (words_of_degree weights (n - a)))
    (λ u. length-map (words_of_degree weights (n - a)) (triple i u)) (words_of_degree weights a)

-- a product of two numbers that are known up to m, known up to m
pub product_within : (m a b : ℕ) → 0 < m → min (min a m * min b m) m ≡ min (a * b) m
product_within m a b pos = elim (cases_lt m a) [
  | inl big ↦ first_big b big
  | inr small ↦ elim (cases_lt m b) [
    | inl big ↦ second_big a small big
    | inr also ↦ ap₂ (λ (x y : ℕ). min (x * y) m) (omega (arith, small)) (omega (arith, also))
  ]
]
  where
    first_big : (b : ℕ) → m < a → min (min a m * min b m) m ≡ min (a * b) m
    first_big zero big =
        let none : min 0 m ≡ 0 = omega arith in
        ap (λ (x : ℕ). min (min a m * x) m) none ∙ ap (λ (x : ℕ). min x m) (mul-zero (min a m) ∙ sym (mul-zero a))
    first_big (suc b) big =
        let least = mul-le m 1 (min a m) (min (suc b) m) (omega (arith, big)) (omega (arith, pos)) in
        let more = mul-le a 1 a (suc b) (omega arith) (omega arith) in
        omega (arith, least, more, big)

    second_big : (a : ℕ) → a ≤ m → m < b → min (min a m * min b m) m ≡ min (a * b) m
    second_big zero small big =
        let none : min 0 m ≡ 0 = omega arith in
        ap (λ (x : ℕ). min (x * min b m) m) none ∙ ap (λ (x : ℕ). min x m) (zero-mul (min b m) ∙ sym (zero-mul b))
    second_big (suc a) small big =
        let least = mul-le 1 m (min (suc a) m) (min b m) (omega (arith, pos)) (omega (arith, big)) in
        let more = mul-le 1 b (suc a) b (omega arith) (omega arith) in
        omega (arith, least, more, big)

module _ {Y : Type 0} (f : ℕ → List Y) where
  -- a count that is cut off at m takes in the list of one more number
  pub count_one_more : (n m count rounds : ℕ) → count ≡ min (length (flat_map f (numbers_below n))) m → rounds ≡ min (length (f n)) m →
      min (count + rounds) m ≡ min (length (flat_map f (numbers_below (n + 1)))) m
  count_one_more n m count rounds c r =
      let more : length (flat_map f (numbers_below (n + 1))) ≡ length (f n) + length (flat_map f (numbers_below n)) =
      ap (λ (k : ℕ). length (flat_map f (numbers_below k))) (add-one n) ∙ length-append (f n) (flat_map f (numbers_below n)) in
      omega (arith, more, c, r)

  -- a list before those of the lesser numbers
  pub one_fewer : (old : List Y) (m a b : ℕ) → a ≡ suc m → b ≡ m → (old ++ f m) ++ flat_map f (numbers_below b) ≡ old ++ flat_map f (numbers_below a)
  one_fewer old m a b e h =
      ap (λ (n : ℕ). (old ++ f m) ++ flat_map f (numbers_below n)) h ∙ append_assoc old (f m) (flat_map f (numbers_below m))
      ∙ ap (λ (n : ℕ). old ++ flat_map f (numbers_below n)) (sym e)

-- one more relation
pub triples_from-push : (weights : List ℕ) (d i : ℕ) (rs : List (List Term)) (r : List Term) →
    triples_from weights d i (rs ++ r ∷ []) ≡ triples_from weights d i rs ++ triples_at weights d (i + length rs) r
triples_from-push weights d i [] r = append-nil (triples_at weights d i r) ∙ ap (λ (n : ℕ). triples_at weights d n r) (omega arith)
triples_from-push weights d i (s ∷ rs) r =
    ap (λ (qs : List Product). triples_at weights d i s ++ qs) (triples_from-push weights d (suc i) rs r
    ∙ ap (λ (n : ℕ). triples_from weights d (suc i) rs ++ triples_at weights d n r) (omega arith))
    ∙ sym (append_assoc (triples_at weights d i s) (triples_from weights d (suc i) rs) (triples_at weights d (i + suc (length rs)) r))

-- one more relation adds its triples behind those of the relations before it
pub triples_from-take : (weights : List ℕ) (d i : ℕ) (rs : List (List Term)) (k : ℕ) (r : List Term) → k < length rs → r ≡ get_or rs k r
    → triples_from weights d i (take (k + 1) rs) ≡ triples_from weights d i (take k rs) ++ triples_at weights d (i + k) r
triples_from-take weights d i rs k r within is =
    ap (triples_from weights d i) (take_more rs k r within ∙ ap (λ (s : List Term). take k rs ++ s ∷ []) (sym is)) ∙ triples_from-push weights d i (take k rs) r
    ∙ ap (λ (n : ℕ). triples_from weights d i (take k rs) ++ triples_at weights d (i + n) r) (length-take k rs ∙ omega (arith, within))

flat_map-nil : {X Y : Type 0} (f : X → List Y) → ((x : X) → f x ≡ []) → (xs : List X) → flat_map f xs ≡ []
flat_map-nil f h [] = refl
flat_map-nil f h (x ∷ xs) = ap (λ (ys : List _). ys ++ flat_map f xs) (h x) ∙ flat_map-nil f h xs

-- words of use before and behind give the same triples as all words
pub rounds_listed : (weights : List ℕ) (i n a b : ℕ) (lists : List (List (List ℕ))) → AreLists weights n lists (n + 1) → a + b ≡ n
    → flat_map (λ u. map (triple i u) (list_at lists b)) (list_at lists a) ≡ round_triples weights i n a
rounds_listed weights i n a b lists h is = by_words (words_of_degree weights a) (words_of_degree weights b) refl refl
  where
    behind : n - a ≡ b
    behind = omega (arith, is)

    before : n - b ≡ a
    before = omega (arith, is)

    by_words : (us vs : List (List ℕ)) → words_of_degree weights a ≡ us → words_of_degree weights b ≡ vs →
        flat_map (λ u. map (triple i u) (list_at lists b)) (list_at lists a) ≡ round_triples weights i n a
    by_words us [] e f =
        let none : list_at lists a ≡ [] = h.unused a (omega (arith, is)) (ap (words_of_degree weights) behind ∙ f) in
        ap (flat_map (λ u. map (triple i u) (list_at lists b))) none
        ∙ sym (flat_map-nil (right_triples weights i (n - a)) (λ u. ap (λ (ws : List (List ℕ)). map (triple i u) ws)
        (ap (words_of_degree weights) behind ∙ f)) (words_of_degree weights a))
    by_words [] (v ∷ vs) e f =
        let none : list_at lists b ≡ [] = h.unused b (omega (arith, is)) (ap (words_of_degree weights) before ∙ e) in
        flat_map-nil (λ u. map (triple i u) (list_at lists b)) (λ u. ap (λ (ws : List (List ℕ)). map (triple i u) ws) none) (list_at lists a)
        ∙ sym (ap (flat_map (right_triples weights i (n - a))) e)
    by_words (u ∷ us) (v ∷ vs) e f =
        let first : list_at lists a ≡ words_of_degree weights a = h.listed a (omega (arith, is))
        (λ none. let z : v ∷ vs ≡ [] = sym f ∙ sym (ap (words_of_degree weights) behind) ∙ none in cc) in
        let second : list_at lists b ≡ words_of_degree weights b = h.listed b (omega (arith, is))
        (λ none. let z : u ∷ us ≡ [] = sym e ∙ sym (ap (words_of_degree weights) before) ∙ none in cc) in
        (λ j. flat_map (λ u. map (triple i u) (second j)) (first j))
        ∙ ap (λ (m : ℕ). flat_map (right_triples weights i m) (words_of_degree weights a)) (sym behind)
