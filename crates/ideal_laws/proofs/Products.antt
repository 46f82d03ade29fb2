-- A finite list of the products of a degree.
use Rattle.std.proofs.Common.{◌≡◌, ◌≢◌, ◌<◌, ◌≤◌, ◌==◌, ◌&&◌, ℕ, suc, Bool, true, false, cond, List, [], ◌∷◌, length, refl, sym, ◌∙◌, inl, inr, arith}
use Rattle.std.proofs.Common.{All, subst, eq-eqb}
use Rattle.std.specs.List.{Contains, flat_map, range_with_len}
use Rattle.std.proofs.lemmas.Bool.{cases_Bool, eqb-true}
use Rattle.std.proofs.lemmas.List.Elements.{All-cons, All-contains, All-head, All-nil, All-tail}
use Rattle.words.specs.Words.{AreWeights, IsOver, degree_of, words_of_degree}
use Rattle.words.proofs.Degrees.{Contains-range, listed_word, words_of_degree-says}
use Rattle.words.proofs.Members.{Contains-cases, Contains-first, Contains-flat_map, Contains-flat_map_cases, Contains-none}
use Rattle.free_poly.specs.declared.term.Term.{Term}
use Rattle.free_poly.specs.Terms.{HasDegree, product}
use Rattle.free_poly.proofs.Products.{degree_of-round}
use Rattle.ideal_laws.specs.Ideal.{IsMultiple, Multiple, ideal_over}
use Rattle.ideal_laws.specs.Laws.{IsRelation}

-- whether all words have this degree
abbrev pub has_degree : List ℕ → ℕ → List Term → Bool
has_degree weights d [] = true
has_degree weights d (t ∷ f) = (degree_of weights t.word == d) && has_degree weights d f

-- where all words have degree d, the test says so
pub has_degree-is : (weights : List ℕ) (d : ℕ) (f : List Term) → HasDegree weights d f → has_degree weights d f ≡ true
has_degree-is weights d [] h = refl
has_degree-is weights d (t ∷ f) h =
    rw (eq-eqb _ _ (All-head (λ t. degree_of weights t.word ≡ d) t f h)) (has_degree-is weights d f (All-tail (λ t. degree_of weights t.word ≡ d) t f h))

-- where the test says so, all words have degree d
pub has_degree-says : (weights : List ℕ) (d : ℕ) (f : List Term) → has_degree weights d f ≡ true → HasDegree weights d f
has_degree-says weights d [] e = All-nil (λ t. degree_of weights t.word ≡ d)
has_degree-says weights d (t ∷ f) e = All-cons (λ t. degree_of weights t.word ≡ d) t f (eqb-true _ _ (first _ _ e)) (has_degree-says weights d f (second _ _ e))
  where
    first : (a b : Bool) → (a && b) ≡ true → a ≡ true
    first true b e = refl
    first false b e = cc e

    second : (a b : Bool) → (a && b) ≡ true → b ≡ true
    second true b e = e
    second false b e = cc e

-- the words of degrees up to d
abbrev pub words_upto : List ℕ → ℕ → List (List ℕ)
words_upto weights d = flat_map (words_of_degree weights) (range_with_len 0 (suc d))

-- u * r * v where it has degree d
abbrev pub product_if : List ℕ → ℕ → List Term → List ℕ → List ℕ → List (List Term)
product_if weights d r u v = cond (has_degree weights d (product u r v)) (product u r v ∷ []) []

abbrev pub products : List ℕ → List (List Term) → ℕ → List (List Term)
products weights relations d = flat_map (λ r. flat_map (λ u. flat_map (product_if weights d r u) (words_upto weights d)) (words_upto weights d)) relations

module _ (weights : List ℕ) (aw : AreWeights weights) where
  in_words_upto : (d : ℕ) (w : List ℕ) → IsOver (length weights) w → degree_of weights w ≤ d → Contains (words_upto weights d) w
  in_words_upto d w over le = Contains-flat_map (words_of_degree weights) (range_with_len 0 (suc d)) (degree_of weights w) w
      (Contains-range 0 (suc d) _ (omega arith) (omega (arith, le))) (listed_word weights aw w over)

  words_upto-over : (d : ℕ) (w : List ℕ) → Contains (words_upto weights d) w → IsOver (length weights) w
  words_upto-over d w h = let r = Contains-flat_map_cases (words_of_degree weights) (range_with_len 0 (suc d)) w h in
      (words_of_degree-says weights aw r.0 w r.2).0

  -- each product of the degree is in the list
  pub product_listed : (p : ℕ) (relations : List (List Term)) → All (IsRelation p weights) relations → (d : ℕ) (m : Multiple) →
      IsMultiple (ideal_over p weights relations) d m
      → Contains (products weights relations d) (product m.left m.relation m.right)
  product_listed p relations rels d m h =
      let sizes = degree_round m.relation (All-contains (IsRelation p weights) relations m.relation rels h.among).other h.degree in
      Contains-flat_map (λ r. flat_map (λ u. flat_map (product_if weights d r u) (words_upto weights d)) (words_upto weights d)) relations m.relation _ h.among
      (Contains-flat_map (λ u. flat_map (product_if weights d m.relation u) (words_upto weights d)) (words_upto weights d) m.left _
      (in_words_upto d m.left h.left_over sizes.0)
      (Contains-flat_map (product_if weights d m.relation m.left) (words_upto weights d) m.right _ (in_words_upto d m.right h.right_over sizes.1)
      (rw (has_degree-is weights d (product m.left m.relation m.right) h.degree) (Contains-first (product m.left m.relation m.right) []))))
    where
      degree_round : (f : List Term) → f ≢ [] → HasDegree weights d (product m.left f m.right) →
          (degree_of weights m.left ≤ d) × (degree_of weights m.right ≤ d)
      degree_round [] ne hd = absurd (ne refl)
      degree_round (t ∷ f) ne hd =
          let e = sym (degree_of-round weights m.left t.word m.right)
          ∙ All-head (λ s. degree_of weights s.word ≡ d) _ (product m.left f m.right) hd in (omega (arith, e), omega (arith, e))

  -- a member of the list with the words round its relation
  pub record IsProduct (p : ℕ) (relations : List (List Term)) (d : ℕ) (g : List Term) : Type 0 where
    pub multiple : Multiple
    pub is_multiple : IsMultiple (ideal_over p weights relations) d multiple
    pub is : g ≡ product multiple.left multiple.relation multiple.right

  -- the list has products of the degree alone
  pub listed_product : (p : ℕ) → 0 < p → (relations : List (List Term)) (d : ℕ) (g : List Term) → Contains (products weights relations d) g
      → IsProduct p relations d g
  listed_product p pos relations d g h =
      let r = Contains-flat_map_cases (λ r. flat_map (λ u. flat_map (product_if weights d r u) (words_upto weights d)) (words_upto weights d)) relations g h in
      let u = Contains-flat_map_cases (λ u. flat_map (product_if weights d r.0 u) (words_upto weights d)) (words_upto weights d) g r.2 in
      let v = Contains-flat_map_cases (product_if weights d r.0 u.0) (words_upto weights d) g u.2 in
      elim (cases_Bool (has_degree weights d (product u.0 r.0 v.0))) [
        | inr other ↦ absurd (Contains-none g (subst (λ (b : Bool). Contains (cond b (product u.0 r.0 v.0 ∷ []) []) g) other v.2))
        | inl is ↦ elim (Contains-cases (product u.0 r.0 v.0) [] g (subst (λ (b : Bool). Contains (cond b (product u.0 r.0 v.0 ∷ []) []) g) is v.2)) [
          | inr none ↦ absurd (Contains-none g none)
          | inl e ↦ record {
            multiple = record { factor = 0; left = u.0; relation = r.0; right = v.0 };
            is_multiple = record {
              residue = pos;
              left_over = words_upto-over d u.0 u.1;
              right_over = words_upto-over d v.0 v.1;
              among = r.1;
              degree = has_degree-says weights d (product u.0 r.0 v.0) is;
            };
            is = sym e;
          }
        ]
      ]
