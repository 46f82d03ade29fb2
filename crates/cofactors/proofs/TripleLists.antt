-- The list of triples has exactly the words round relations that give the degree, in the order of product lists.
use Rattle.std.proofs.Common.{◌≡◌, ◌≢◌, ◌+◌, ◌-◌, ◌<◌, ℕ, zero, suc, List, [], ◌∷◌, ◌++◌, length, get_or, refl, sym, ◌∙◌, inl, inr, arith, subst, AllPairs}
use Rattle.std.specs.List.{Contains}
use Rattle.std.proofs.lemmas.Bool.{cases_eq}
use Rattle.std.proofs.lemmas.List.Elements.{All-cons, All-head, All-nil, Contains-append_cases, Contains-append_left, Contains-append_right}
use Rattle.std.proofs.lemmas.List.Kept.{AllPairs-cons}
use Rattle.words.specs.Words.{AreWeights, IsOver, degree_of, words_of_degree}
use Rattle.words.specs.Order.{IsGreater}
use Rattle.words.proofs.Degrees.{listed_word, words_of_degree-order, words_of_degree-says}
use Rattle.words.proofs.Members.{AllPairs-append, AllPairs-flat_map, AllPairs-map, AllPairs-nil, All-from_members, Contains-cases, Contains-first}
use Rattle.words.proofs.Members.{Contains-flat_map, Contains-flat_map_cases, Contains-map, Contains-map_cases, Contains-more, Contains-none}
use Rattle.free_poly.specs.declared.term.Term.{Term}
use Rattle.free_poly.specs.Terms.{HasDegree, HasOneDegree, product}
use Rattle.free_poly.proofs.Products.{degree_of-round}
use Rattle.ideal_laws.specs.Kept.{lead_degree}
use Rattle.ideal_laws.specs.Laws.{IsRelation}
use Rattle.cofactors.specs.declared.product.Product.{Product}
use Rattle.cofactors.specs.ProductList.{StandsBefore, numbers_below, right_triples, round_triples, triple, triples_at, triples_from}

-- the numbers below n are those that are less
number_below : (n a : ℕ) → a < n → Contains (numbers_below n) a
number_below zero a lt = absurd (omega (arith, lt))
number_below (suc n) a lt = elim (cases_eq a n) [
  | inl is ↦ subst (Contains (n ∷ numbers_below n)) (sym is) (Contains-first n (numbers_below n))
  | inr other ↦ Contains-more n (numbers_below n) a (number_below n a (omega (arith, lt, other)))
]

below_says : (n a : ℕ) → Contains (numbers_below n) a → a < n
below_says zero a m = absurd (Contains-none a m)
below_says (suc n) a m = elim (Contains-cases n (numbers_below n) a m) [
  | inl e ↦ omega (arith, e)
  | inr k ↦ omega (arith, below_says n a k)
]

below_falls : (n : ℕ) → AllPairs (λ x y. y < x) (numbers_below n)
below_falls zero = AllPairs-nil (λ x y. y < x)
below_falls (suc n) = AllPairs-cons (λ x y. y < x) n (numbers_below n) (All-from_members (λ y. y < n) (numbers_below n) (below_says n)) (below_falls n)

-- where all words have one degree it is that of the first
pub degree_of_lead : (weights : List ℕ) (f : List Term) → HasOneDegree weights f → HasDegree weights (lead_degree weights f) f
degree_of_lead weights [] h = All-nil (λ t. degree_of weights t.word ≡ 0)
degree_of_lead weights (t ∷ f) h = All-cons (λ (s : Term). degree_of weights s.word ≡ degree_of weights t.word) t f refl
    (λ k d within. sym (h 0 (suc k) d (omega arith) (omega (arith, within))))

-- all words of a relation have the degree of its leading word
pub one_degree : (p : ℕ) (weights : List ℕ) (r : List Term) → IsRelation p weights r → HasDegree weights (lead_degree weights r) r
one_degree p weights r h = degree_of_lead weights r h.one_degree

-- words round a relation of this degree together
pub degree_of_round : (weights : List ℕ) (d : ℕ) (u : List ℕ) (r : List Term) (v : List ℕ) → r ≢ [] → HasDegree weights d (product u r v) →
    degree_of weights u + lead_degree weights r + degree_of weights v ≡ d
degree_of_round weights d u [] v ne h = absurd (ne refl)
degree_of_round weights d u (t ∷ r) v ne h = sym (degree_of-round weights u t.word v)
    ∙ All-head (λ (s : Term). degree_of weights s.word ≡ d) (record { word = u ++ t.word ++ v; coefficient = t.coefficient })
    (product u r v) h

module _ (weights : List ℕ) (aw : AreWeights weights) (d : ℕ) where
  -- a triple of the relation r, which has this number
  pub record IsTripleOf (i : ℕ) (r : List Term) (q : Product) : Type 0 where
    pub none : q.coefficient ≡ 0
    pub number : q.relation ≡ i
    pub left_over : IsOver (length weights) q.left
    pub right_over : IsOver (length weights) q.right
    pub degree : degree_of weights q.left + lead_degree weights r + degree_of weights q.right ≡ d

  abbrev with_left : ℕ → ℕ → ℕ → List ℕ → List Product
  with_left i e a = right_triples weights i (d - e - a)

  abbrev with_degree : ℕ → ℕ → ℕ → List Product
  with_degree i e a = round_triples weights i (d - e) a

  word_listed : (w : List ℕ) (e : ℕ) → IsOver (length weights) w → degree_of weights w ≡ e → Contains (words_of_degree weights e) w
  word_listed w e over is = subst (λ (n : ℕ). Contains (words_of_degree weights n) w) is (listed_word weights aw w over)

  at_listed : (i : ℕ) (r : List Term) (q : Product) → IsTripleOf i r q → Contains (triples_at weights d i r) q
  at_listed i r q h =
      let e = lead_degree weights r in
      let a = degree_of weights q.left in
      let is : triple i q.left q.right ≡ q = λ j. record { coefficient = sym h.none j; left = q.left; relation = sym h.number j; right = q.right } in
      Contains-flat_map (with_degree i e) (numbers_below (d + 1 - e)) a q (number_below (d + 1 - e) a (omega (arith, h.degree)))
      (Contains-flat_map (with_left i e a) (words_of_degree weights a) q.left q (word_listed q.left a h.left_over refl)
      (subst (Contains (with_left i e a q.left)) is (Contains-map (triple i q.left) (words_of_degree weights (d - e - a)) q.right
      (word_listed q.right (d - e - a) h.right_over (omega (arith, h.degree))))))

  degree_says : (i e a : ℕ) (q : Product) → Contains (with_degree i e a) q →
      (q.coefficient ≡ 0) × (q.relation ≡ i) × (IsOver (length weights) q.left × IsOver (length weights) q.right)
      × ((degree_of weights q.left ≡ a) × (degree_of weights q.right ≡ d - e - a))
  degree_says i e a q m =
      let u = Contains-flat_map_cases (with_left i e a) (words_of_degree weights a) q m in
      let v = Contains-map_cases (triple i u.0) (words_of_degree weights (d - e - a)) q u.2 in
      let left = words_of_degree-says weights aw a u.0 u.1 in
      let right = words_of_degree-says weights aw (d - e - a) v.0 v.1 in
      subst (λ (c : Product). (c.coefficient ≡ 0) × (c.relation ≡ i) × (IsOver (length weights) c.left × IsOver (length weights) c.right)
      × ((degree_of weights c.left ≡ a) × (degree_of weights c.right ≡ d - e - a))) v.2
      (refl, refl, (left.0, right.0), (left.1, right.1))

  at_says : (i : ℕ) (r : List Term) (q : Product) → Contains (triples_at weights d i r) q → IsTripleOf i r q
  at_says i r q m =
      let e = lead_degree weights r in
      let a = Contains-flat_map_cases (with_degree i e) (numbers_below (d + 1 - e)) q m in
      let s = degree_says i e a.0 q a.2 in
      record { none = s.0; number = s.1; left_over = s.2.0; right_over = s.2.1; degree = omega (arith, below_says (d + 1 - e) a.0 a.1, s.3.0, s.3.1) }

  with_degree-ordered : (i e a : ℕ) → AllPairs (StandsBefore weights) (with_degree i e a)
  with_degree-ordered i e a = AllPairs-flat_map (with_left i e a) (IsGreater weights) (StandsBefore weights)
      (λ u. AllPairs-map (triple i u) (IsGreater weights) (StandsBefore weights) (λ v w g. inr (refl, inr (refl, g)))
      (words_of_degree weights (d - e - a)) (words_of_degree-order weights aw (d - e - a)))
      (λ u w q r g m n.
      let x = Contains-map_cases (triple i u) (words_of_degree weights (d - e - a)) q m in
      let y = Contains-map_cases (triple i w) (words_of_degree weights (d - e - a)) r n in
      subst (λ (c : Product). StandsBefore weights c r) x.2 (subst (StandsBefore weights (triple i u x.0)) y.2 (inr (refl, inl g))))
      (words_of_degree weights a) (words_of_degree-order weights aw a)

  at_ordered : (i : ℕ) (r : List Term) → AllPairs (StandsBefore weights) (triples_at weights d i r)
  at_ordered i r =
      let e = lead_degree weights r in
      AllPairs-flat_map (with_degree i e) (λ x y. y < x) (StandsBefore weights) (with_degree-ordered i e)
      (λ a b q s lt m n.
      let x = degree_says i e a q m in
      let y = degree_says i e b s n in
      inr (x.1 ∙ sym y.1, inl (inl (omega (arith, lt, x.3.0, y.3.0)))))
      (numbers_below (d + 1 - e)) (below_falls (d + 1 - e))

  -- the triples of relations that are numbered from i on
  pub from_listed : (i : ℕ) (rs : List (List Term)) (k : ℕ) (r : List Term) (q : Product) → k < length rs → get_or rs k r ≡ r →
      IsTripleOf (i + k) r q → Contains (triples_from weights d i rs) q
  from_listed i [] k r q lt e h = absurd (omega (arith, lt))
  from_listed i (s ∷ rs) zero r q lt e h =
      Contains-append_left (triples_at weights d i s) (triples_from weights d (suc i) rs) q
      (at_listed i s q (subst (λ (f : List Term). IsTripleOf i f q) (sym e) (subst (λ (n : ℕ). IsTripleOf n r q) (omega arith) h)))
  from_listed i (s ∷ rs) (suc k) r q lt e h =
      Contains-append_right (triples_at weights d i s) (triples_from weights d (suc i) rs) q
      (from_listed (suc i) rs k r q (omega (arith, lt)) e (subst (λ (n : ℕ). IsTripleOf n r q) (omega arith) h))

  -- a member of the list is a triple of one of the relations, by its number
  pub from_says : (i : ℕ) (rs : List (List Term)) (q : Product) → Contains (triples_from weights d i rs) q →
      (k : ℕ) × (k < length rs) × IsTripleOf (i + k) (get_or rs k []) q
  from_says i [] q m = absurd (Contains-none q m)
  from_says i (r ∷ rs) q m = elim (Contains-append_cases (triples_at weights d i r) (triples_from weights d (suc i) rs) q m) [
    | inl h ↦ (0, omega arith, subst (λ (n : ℕ). IsTripleOf n r q) (omega arith) (at_says i r q h))
    | inr h ↦ let t = from_says (suc i) rs q h in (suc t.0, omega (arith, t.1), subst (λ (n : ℕ). IsTripleOf n (get_or rs t.0 []) q) (omega arith) t.2)
  ]

  -- the triples stand in the order of product lists
  pub from_ordered : (i : ℕ) (rs : List (List Term)) → AllPairs (StandsBefore weights) (triples_from weights d i rs)
  from_ordered i [] = AllPairs-nil (StandsBefore weights)
  from_ordered i (r ∷ rs) = AllPairs-append (StandsBefore weights) (triples_at weights d i r) (triples_from weights d (suc i) rs)
      (at_ordered i r) (from_ordered (suc i) rs)
      (λ q m. All-from_members (StandsBefore weights q) (triples_from weights d (suc i) rs) (λ s n.
      let x = at_says i r q m in
      let y = from_says (suc i) rs s n in
      inl (omega (arith, x.number, y.2.number))))
