-- A sum of multiples is the sum of a product list: the multiples with one triple are added up, and those that are
-- then 0 left out.
use Rattle.std.proofs.Common.{ap₂, ◌≡◌, ◌+◌, ◌<◌, ◌%◌, ◌==◌, ℕ, zero, suc, Bool, true, false, cond, List, [], ◌∷◌, ◌++◌, length, map, get_or, refl}
use Rattle.std.proofs.Common.{sym, ap, ◌∙◌, inl, inr, arith, subst, All, AllPairs}
use Rattle.std.specs.List.{Contains, flat_map}
use Rattle.std.proofs.Math.Nat.{add-mod, mod-lt, mod-mod}
use Rattle.std.proofs.lemmas.Bool.{eqb-true}
use Rattle.std.proofs.lemmas.List.{get_or_default, length-map}
use Rattle.std.proofs.lemmas.List.Elements.{All-cons, All-contains, All-head, All-nil, All-tail}
use Rattle.std.proofs.lemmas.List.Kept.{AllPairs-cons}
use Rattle.words.specs.Words.{IsOver}
use Rattle.words.proofs.Members.{AllPairs-first, AllPairs-nil, AllPairs-rest, All-from_members, Contains-cases, Contains-first, Contains-more, Contains-none}
use Rattle.field_table.specs.Residues.{IsFieldModulus}
use Rattle.free_poly.specs.declared.term.Term.{Term}
use Rattle.free_poly.specs.Terms.{HasDegree, IsSame, product, scaled}
use Rattle.free_poly.proofs.Products.{HasDegree-product}
use Rattle.linear_algebra.specs.Fields.{Field}
use Rattle.linear_algebra.specs.Mod.{Residue}
use Rattle.linear_algebra.proofs.Algebra.{add_left_comm, mul_zero, zero_add}
use Rattle.linear_algebra.proofs.ModField.{same_residue}
use Rattle.ideal_laws.specs.Ideal.{Ideal, IsMultiple, Multiple, terms_of}
use Rattle.ideal_laws.specs.Kept.{lead_degree}
use Rattle.ideal_laws.specs.Laws.{IsRelation, IsSetting}
use Rattle.ideal_laws.proofs.Vectors.{same_vectors, vector_of-append, vector_of-scaled}
use Rattle.ideal_laws.proofs.Vectors as vectors
use Rattle.cofactors.specs.declared.product.Product.{Product}
use Rattle.cofactors.specs.Laws.{HasProductList}
use Rattle.cofactors.specs.NormalForm.{IsNormalForm}
use Rattle.cofactors.specs.ProductList.{IsProduct, IsProductList, StandsBefore, product_terms, relation_at, triple_terms, triples}
use Rattle.cofactors.proofs.TripleLists.{degree_of_round, from_listed, from_ordered, from_says, one_degree}

-- a added at a place, modulo p
abbrev add_at : ℕ → ℕ → ℕ → List ℕ → List ℕ
add_at p k a [] = []
add_at p zero a (c ∷ cs) = (c + a) % p ∷ cs
add_at p (suc k) a (c ∷ cs) = c ∷ add_at p k a cs

length-add_at : (p k a : ℕ) (cs : List ℕ) → length (add_at p k a cs) ≡ length cs
length-add_at p k a [] = refl
length-add_at p zero a (c ∷ cs) = refl
length-add_at p (suc k) a (c ∷ cs) = ap suc (length-add_at p k a cs)

residues-add_at : (p k a : ℕ) → 0 < p → (cs : List ℕ) → All (λ c. c < p) cs → All (λ c. c < p) (add_at p k a cs)
residues-add_at p k a pos [] h = h
residues-add_at p zero a pos (c ∷ cs) h = All-cons (λ c. c < p) ((c + a) % p) cs (mod-lt (c + a) {m = p} pos) (All-tail (λ c. c < p) c cs h)
residues-add_at p (suc k) a pos (c ∷ cs) h = All-cons (λ c. c < p) c (add_at p k a cs) (All-head (λ c. c < p) c cs h)
    (residues-add_at p k a pos cs (All-tail (λ c. c < p) c cs h))

-- the sum of c * u * r * v over two lists
abbrev weighted : List (List Term) → List ℕ → List Product → List Term
weighted relations [] qs = []
weighted relations (c ∷ cs) [] = []
weighted relations (c ∷ cs) (q ∷ qs) = scaled c (triple_terms relations q) ++ weighted relations cs qs

module _ (p : ℕ) (fm : IsFieldModulus p) (relations : List (List Term)) where
  abbrev K : Field
  K = vectors.K p fm

  abbrev vec : List Term → List ℕ → Residue p
  vec f = vectors.vector_of p fm f

  abbrev of : ℕ → Residue p
  of n = vectors.of p fm n

  -- the product of a triple, without its coefficient
  abbrev pub core : Product → List Term
  core q = triple_terms relations q

  abbrev zeros : List Product → List ℕ
  zeros qs = map (λ q. 0) qs

  -- a weighted sum is its first triple times the first coefficient, and the rest
  pub weighted-first : (c : ℕ) (cs : List ℕ) (q : Product) (qs : List Product) (w : List ℕ) →
      vec (weighted relations (c ∷ cs) (q ∷ qs)) w ≡ K.add (K.mul (of c) (vec (core q) w)) (vec (weighted relations cs qs) w)
  weighted-first c cs q qs w = vector_of-append p fm (scaled c (core q)) (weighted relations cs qs) w
      ∙ ap (λ (n : Residue p). K.add n (vec (weighted relations cs qs) w)) (vector_of-scaled p fm c (core q) w)

  of-add : (c a : ℕ) → of ((c + a) % p) ≡ K.add (of c) (of a)
  of-add c a = same_residue p _ _ (mod-mod (c + a) p ∙ add-mod c a p)

  weighted-zeros : (qs : List Product) (w : List ℕ) → vec (weighted relations (zeros qs) qs) w ≡ K.zero
  weighted-zeros [] w = same_residue p _ _ refl
  weighted-zeros (q ∷ qs) w =
      weighted-first 0 (zeros qs) q qs w ∙ ap₂ K.add (K.mul_comm (of 0) (vec (core q) w) ∙ mul_zero K (vec (core q) w))
      (weighted-zeros qs w) ∙ K.add_zero K.zero

  -- a more of one triple
  weighted-add_at : (a k : ℕ) (cs : List ℕ) (qs : List Product) (q : Product) (w : List ℕ) → k < length qs → length cs ≡ length qs → get_or qs k q ≡ q
      → vec (weighted relations (add_at p k a cs) qs) w ≡ K.add (K.mul (of a) (vec (core q) w)) (vec (weighted relations cs qs) w)
  weighted-add_at a k [] [] q w lt n e = absurd (omega (arith, lt))
  weighted-add_at a k [] (r ∷ qs) q w lt n e = absurd (omega (arith, n))
  weighted-add_at a k (c ∷ cs) [] q w lt n e = absurd (omega (arith, lt))
  weighted-add_at a zero (c ∷ cs) (r ∷ qs) q w lt n e =
      let x = vec (core r) w in let y = vec (weighted relations cs qs) w in
      weighted-first ((c + a) % p) cs r qs w
      ∙ ap (λ (m : Residue p). K.add m y) (ap (λ (m : Residue p). K.mul m x) (of-add c a) ∙ K.mul_comm (K.add (of c) (of a)) x
      ∙ K.mul_add x (of c) (of a) ∙ ap₂ K.add (K.mul_comm x (of c)) (K.mul_comm x (of a)))
      ∙ ap (λ (m : Residue p). K.add m y) (K.add_comm (K.mul (of c) x) (K.mul (of a) x)) ∙ K.add_assoc (K.mul (of a) x) (K.mul (of c) x) y
      ∙ ap₂ K.add (ap (λ (s : Product). K.mul (of a) (vec (core s) w)) e) (sym (weighted-first c cs r qs w))
  weighted-add_at a (suc k) (c ∷ cs) (r ∷ qs) q w lt n e =
      weighted-first c (add_at p k a cs) r qs w ∙ ap (K.add (K.mul (of c) (vec (core r) w)))
      (weighted-add_at a k cs qs q w (omega (arith, lt)) (omega (arith, n)) e)
      ∙ add_left_comm K (K.mul (of c) (vec (core r) w)) (K.mul (of a) (vec (core q) w)) (vec (weighted relations cs qs) w)
      ∙ ap (K.add (K.mul (of a) (vec (core q) w))) (sym (weighted-first c cs r qs w))

  -- a triple with this coefficient
  abbrev with_coefficient : ℕ → Product → Product
  with_coefficient c q = record { coefficient = c; left = q.left; relation = q.relation; right = q.right }

  -- each triple with its coefficient, but for those whose coefficient is 0
  abbrev pub listed_products : List ℕ → List Product → List Product
  listed_products [] qs = []
  listed_products (c ∷ cs) [] = []
  listed_products (c ∷ cs) (q ∷ qs) = cond (c == 0) (listed_products cs qs) (with_coefficient c q ∷ listed_products cs qs)

  same_listed : (cs : List ℕ) (qs : List Product) (w : List ℕ) → vec (weighted relations cs qs) w
      ≡ vec (flat_map (product_terms relations) (listed_products cs qs)) w
  same_listed [] qs w = refl
  same_listed (c ∷ cs) [] w = refl
  same_listed (c ∷ cs) (q ∷ qs) w = by_test (c == 0) refl (same_listed cs qs w)
    where
      by_test : (b : Bool) → (c == 0) ≡ b → vec (weighted relations cs qs) w ≡ vec (flat_map (product_terms relations) (listed_products cs qs)) w
          → vec (weighted relations (c ∷ cs) (q ∷ qs)) w ≡ vec (flat_map (product_terms relations)
          (cond b (listed_products cs qs) (with_coefficient c q ∷ listed_products cs qs))) w
      by_test true e h =
          weighted-first c cs q qs w ∙ ap₂ K.add (ap (λ (n : ℕ). K.mul (of n) (vec (core q) w)) (eqb-true c 0 e)
          ∙ K.mul_comm (of 0) (vec (core q) w) ∙ mul_zero K (vec (core q) w)) h ∙ zero_add K _
      by_test false e h = weighted-first c cs q qs w ∙ ap₂ K.add (sym (vector_of-scaled p fm c (core q) w)) h
          ∙ sym (vector_of-append p fm (scaled c (core q)) (flat_map (product_terms relations) (listed_products cs qs)) w)

  -- a number that is not 0 is positive
  pub positive_from : (c : ℕ) → (c == 0) ≡ false → 0 < c
  positive_from zero e = cc e
  positive_from (suc c) e = omega arith

  -- a member of the list is a triple with a coefficient
  listed-says : (cs : List ℕ) (qs : List Product) (q : Product) → All (λ c. c < p) cs → Contains (listed_products cs qs) q
      → (r : Product) × Contains qs r × ((0 < q.coefficient) × (q.coefficient < p)) × ((q.left ≡ r.left) × (q.relation ≡ r.relation) × (q.right ≡ r.right))
  listed-says [] qs q h m = absurd (Contains-none q m)
  listed-says (c ∷ cs) [] q h m = absurd (Contains-none q m)
  listed-says (c ∷ cs) (s ∷ qs) q h m = by_test (c == 0) refl m (listed-says cs qs q (All-tail (λ c. c < p) c cs h))
    where
      Says : List Product → Type 0
      Says xs = (r : Product) × Contains xs r × ((0 < q.coefficient) × (q.coefficient < p))
          × ((q.left ≡ r.left) × (q.relation ≡ r.relation) × (q.right ≡ r.right))

      by_test : (b : Bool) → (c == 0) ≡ b → Contains (cond b (listed_products cs qs) (with_coefficient c s ∷ listed_products cs qs)) q →
          (Contains (listed_products cs qs) q → Says qs) → Says (s ∷ qs)
      by_test true e m on = let r = on m in (r.0, Contains-more s qs r.0 r.1, r.2, r.3)
      by_test false e m on = elim (Contains-cases (with_coefficient c s) (listed_products cs qs) q m) [
        | inr n ↦ let r = on n in (r.0, Contains-more s qs r.0 r.1, r.2, r.3)
        | inl is ↦ (
          s,
          Contains-first s qs,
          (
            omega (arith, positive_from c e, ap (λ (x : Product). x.coefficient) is),
            omega (arith, All-head (λ c. c < p) c cs h, ap (λ (x : Product). x.coefficient) is),
          ),
          (sym (ap (λ (x : Product). x.left) is), sym (ap (λ (x : Product). x.relation) is), sym (ap (λ (x : Product). x.right) is)),
        )
      ]

  before_with : (weights : List ℕ) (q r s t : Product) → (q.left ≡ s.left) × (q.relation ≡ s.relation) × (q.right ≡ s.right) →
      (r.left ≡ t.left) × (r.relation ≡ t.relation) × (r.right ≡ t.right) → StandsBefore weights s t → StandsBefore weights q r
  before_with weights q r s t a b h =
      let first : StandsBefore weights (with_coefficient q.coefficient s) (with_coefficient r.coefficient t) = h in
      let left : with_coefficient q.coefficient s ≡ q = λ i. record
      { coefficient = q.coefficient; left = sym a.0 i; relation = sym a.1 i; right = sym a.2 i } in
      let right : with_coefficient r.coefficient t ≡ r = λ i. record
      { coefficient = r.coefficient; left = sym b.0 i; relation = sym b.1 i; right = sym b.2 i } in
      subst (λ (x : Product). StandsBefore weights x r) left (subst (StandsBefore weights (with_coefficient q.coefficient s)) right first)

  listed-ordered : (weights : List ℕ) (cs : List ℕ) (qs : List Product) → All (λ c. c < p) cs → AllPairs (StandsBefore weights) qs →
      AllPairs (StandsBefore weights) (listed_products cs qs)
  listed-ordered weights [] qs h o = AllPairs-nil (StandsBefore weights)
  listed-ordered weights (c ∷ cs) [] h o = AllPairs-nil (StandsBefore weights)
  listed-ordered weights (c ∷ cs) (s ∷ qs) h o =
      by_test (c == 0) (listed-ordered weights cs qs (All-tail (λ c. c < p) c cs h) (AllPairs-rest (StandsBefore weights) s qs o))
    where
      by_test : (b : Bool) → AllPairs (StandsBefore weights) (listed_products cs qs) →
          AllPairs (StandsBefore weights) (cond b (listed_products cs qs) (with_coefficient c s ∷ listed_products cs qs))
      by_test true r = r
      by_test false r = AllPairs-cons (StandsBefore weights) (with_coefficient c s) (listed_products cs qs)
          (All-from_members (StandsBefore weights (with_coefficient c s)) (listed_products cs qs) (λ q m.
          let y = listed-says cs qs q (All-tail (λ c. c < p) c cs h) m in
          before_with weights (with_coefficient c s) q s y.0 (refl, refl, refl) y.3
          (All-contains (StandsBefore weights s) qs y.0 (AllPairs-first (StandsBefore weights) s qs o) y.1))) r

  -- coefficients of the triples that make up a sum of multiples
  pub record HasCoefficients (qs : List Product) (ms : List Multiple) : Type 0 where
    -- a coefficient of each triple
    pub coefficients : List ℕ
    -- they are as many as the triples
    pub count : length coefficients ≡ length qs
    -- each is a residue
    pub residues : All (λ c. c < p) coefficients
    -- the multiples and the triples with these coefficients have the same sum
    pub same : (w : List ℕ) → vec (flat_map terms_of ms) w ≡ vec (weighted relations coefficients qs) w

  positive : 0 < p
  positive = omega (arith, fm.two_or_more)

  zeros-residues : (qs : List Product) → All (λ c. c < p) (zeros qs)
  zeros-residues [] = All-nil (λ c. c < p)
  zeros-residues (q ∷ qs) = All-cons (λ c. c < p) 0 (zeros qs) positive (zeros-residues qs)

  coefficients_of : (qs : List Product) (M : Multiple → Type 0) →
      ((m : Multiple) → M m → (q : Product) × Contains qs q × (core q ≡ product m.left m.relation m.right)) → (ms : List Multiple) →
      All M ms → HasCoefficients qs ms
  coefficients_of qs M triple_of [] h = record {
    coefficients = zeros qs;
    count = length-map qs (λ q. 0);
    residues = zeros-residues qs;
    same = λ w. same_residue p _ _ refl ∙ sym (weighted-zeros qs w);
  }
  coefficients_of qs M triple_of (m ∷ ms) h =
      let r = coefficients_of qs M triple_of ms (All-tail M m ms h) in
      let t = triple_of m (All-head M m ms h) in
      record {
        coefficients = add_at p t.1.0 m.factor r.coefficients;
        count = length-add_at p t.1.0 m.factor r.coefficients ∙ r.count;
        residues = residues-add_at p t.1.0 m.factor positive r.coefficients r.residues;
        same = λ w.
            vector_of-append p fm (terms_of m) (flat_map terms_of ms) w
            ∙ ap₂ K.add (vector_of-scaled p fm m.factor (product m.left m.relation m.right) w
            ∙ ap (λ (f : List Term). K.mul (of m.factor) (vec f w)) (sym t.2)) (r.same w)
            ∙ sym (weighted-add_at m.factor t.1.0 r.coefficients qs t.0 w t.1.1 r.count t.1.2);
      }

module _ (ideal : Ideal) (st : IsSetting ideal) (d : ℕ) where
  abbrev all : List Product
  all = triples ideal.weights ideal.relations d

  relation_is : (k : ℕ) (r : List Term) → k < length ideal.relations → get_or ideal.relations k r ≡ r → relation_at ideal.relations (1 + k) ≡ r
  relation_is k r lt e = ap (λ (n : ℕ). get_or ideal.relations n []) (omega arith) ∙ get_or_default ideal.relations k [] r lt ∙ e

  -- the triple of a multiple
  pub triple_of : (m : Multiple) → IsMultiple ideal d m →
      (q : Product) × Contains all q × (core ideal.modulus st.modulus ideal.relations q ≡ product m.left m.relation m.right)
  triple_of m i =
      let k = i.among in
      let q : Product = record { coefficient = 0; left = m.left; relation = 1 + k.0; right = m.right } in
      let r = All-contains (IsRelation ideal.modulus ideal.weights) ideal.relations m.relation st.are_relations i.among in (
        q,
        from_listed ideal.weights st.are_weights d 1 ideal.relations k.0 m.relation q k.1 k.2
            (record {
              none = refl;
              number = refl;
              left_over = i.left_over;
              right_over = i.right_over;
              degree = degree_of_round ideal.weights d m.left m.relation m.right r.other i.degree;
            }),
        ap (λ (f : List Term). product m.left f m.right) (relation_is k.0 m.relation k.1 k.2),
      )

  -- each member of the list is a product
  is_product : (cs : List ℕ) (q : Product) → All (λ c. c < ideal.modulus) cs → Contains (listed_products ideal.modulus st.modulus ideal.relations cs all) q →
      IsProduct ideal d q
  is_product cs q h m =
      let s = listed-says ideal.modulus st.modulus ideal.relations cs all q h m in
      let t = from_says ideal.weights st.are_weights d 1 ideal.relations s.0 s.1 in
      let k = t.0 in let lt = t.1 in let tr = t.2 in
      let r = get_or ideal.relations k [] in
      let number : q.relation ≡ 1 + k = s.3.1 ∙ tr.number in
      let at : relation_at ideal.relations q.relation ≡ r = ap (λ (n : ℕ). get_or ideal.relations n []) (omega (arith, number)) in
      let rel : IsRelation ideal.modulus ideal.weights r = All-contains (IsRelation ideal.modulus ideal.weights) ideal.relations r st.are_relations
      (k, lt, get_or_default ideal.relations k r [] lt) in
      let degree : HasDegree ideal.weights d (product s.0.left r s.0.right) =
      subst (λ (n : ℕ). HasDegree ideal.weights n (product s.0.left r s.0.right)) tr.degree
      (HasDegree-product ideal.weights (lead_degree ideal.weights r) s.0.left r s.0.right (one_degree ideal.modulus ideal.weights r rel)) in
      record {
        other = s.2.0;
        residue = s.2.1;
        from = omega (arith, number);
        upto = omega (arith, number, lt);
        left_over = subst (IsOver (length ideal.weights)) (sym s.3.0) tr.left_over;
        right_over = subst (IsOver (length ideal.weights)) (sym s.3.2) tr.right_over;
        degree = subst (HasDegree ideal.weights d) (sym (λ i. product (s.3.0 i) (at i) (s.3.2 i))) degree;
      }

  -- an element is its normal form and the sum of a product list
  pub product_list : (f t : List Term) → IsNormalForm ideal d f t → (products : List Product) × IsProductList ideal d products
      × IsSame ideal.modulus f (t ++ flat_map (product_terms ideal.relations) products)
  product_list f t n =
      let c = coefficients_of ideal.modulus st.modulus ideal.relations all (IsMultiple ideal d) triple_of n.multiples n.each in
      let products = listed_products ideal.modulus st.modulus ideal.relations c.coefficients all in (
        products,
        record {
          each = All-from_members (IsProduct ideal d) products (λ q m. is_product c.coefficients q c.residues m);
          ordered = listed-ordered ideal.modulus st.modulus ideal.relations ideal.weights c.coefficients all c.residues
              (from_ordered ideal.weights st.are_weights d 1 ideal.relations);
        },
        λ w. ap (λ (n : Residue ideal.modulus). n.0) (same_vectors ideal.modulus st.modulus f (t ++ flat_map terms_of n.multiples) n.sum w
            ∙ vector_of-append ideal.modulus st.modulus t (flat_map terms_of n.multiples) w
            ∙ ap (λ (m : Residue ideal.modulus). (vectors.K ideal.modulus st.modulus).add (vectors.vector_of ideal.modulus st.modulus t w) m)
            (c.same w ∙ same_listed ideal.modulus st.modulus ideal.relations c.coefficients all w)
            ∙ sym (vector_of-append ideal.modulus st.modulus t (flat_map (product_terms ideal.relations) products) w)),
      )

-- the same as a law of all settings
pub has_product_list : HasProductList
has_product_list ideal st d f t n = product_list ideal st d f t n
