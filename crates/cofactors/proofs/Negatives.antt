-- The products that take the factors of a row away.
use Rattle.std.proofs.Common.{ap₂, ◌≡◌, ◌+◌, ◌-◌, ◌*◌, ◌<◌, ◌%◌, ◌==◌, ℕ, zero, suc, Bool, true, false, cond, List, [], ◌∷◌, ◌++◌, length, map}
use Rattle.std.proofs.Common.{get_or, refl, sym, ap, ◌∙◌, inl, inr, arith, add-mul, zero-mul, add-zero, append-nil, subst, All, AllPairs}
use Rattle.std.specs.List.{Contains, flat_map}
use Rattle.std.proofs.Math.Nat.{add-mod, add-mod-mod, mod-eq_of_lt, mod-lt, mod_self, zero-mod}
use Rattle.std.proofs.lemmas.Bool.{eqb-true}
use Rattle.std.proofs.lemmas.Nat.{mul-mod_first}
use Rattle.std.proofs.lemmas.List.{get_or_default, get_or-map}
use Rattle.std.proofs.lemmas.List.Concat.{flat_map-append}
use Rattle.std.proofs.lemmas.List.Elements.{All-contains, All-head, All-tail, Contains-get_or}
use Rattle.words.proofs.Members.{AllPairs-flat_map, AllPairs-nil, All-from_members, Contains-cases, Contains-flat_map_cases, Contains-none}
use Rattle.field_table.specs.Residues.{negative_of}
use Rattle.free_poly.specs.declared.term.Term.{Term}
use Rattle.free_poly.specs.Terms.{HasDegree, IsSame, product, scaled, total_at}
use Rattle.free_poly.proofs.Products.{HasDegree-product}
use Rattle.free_poly.proofs.Totals.{total_at-append, total_at-scaled}
use Rattle.ideal_laws.specs.Ideal.{Ideal}
use Rattle.ideal_laws.specs.Kept.{lead_degree}
use Rattle.ideal_laws.specs.Laws.{IsRelation, IsSetting}
use Rattle.cofactors.specs.declared.factors.Factor.{Factor}
use Rattle.cofactors.specs.declared.product.Product.{Product}
use Rattle.cofactors.specs.ProductList.{IsProduct, IsProductList, IsSumWith, StandsBefore, product_terms, relation_at, triple, triple_terms, triples}
use Rattle.cofactors.specs.Rows.{AreFactors, HasPlaces, combined, negative_at, negative_products}
use Rattle.cofactors.proofs.TripleLists.{from_ordered, from_says, one_degree}

-- a residue and its negative
negative_sum : (p c : ℕ) → c < p → (c + negative_of p c) % p ≡ 0
negative_sum p c lt = let whole : c + (p - c) ≡ p = omega (arith, lt) in add-mod-mod c (p - c) p ∙ ap (λ (n : ℕ). n % p) whole ∙ mod_self p

negative_times : (p c x : ℕ) → c < p → (c * x + negative_of p c * x) % p ≡ 0
negative_times p c x lt =
    ap (λ (n : ℕ). n % p) (sym (add-mul c (negative_of p c) x)) ∙ sym (mul-mod_first (c + negative_of p c) x p)
    ∙ ap (λ (n : ℕ). (n * x) % p) (negative_sum p c lt) ∙ ap (λ (n : ℕ). n % p) (zero-mul x) ∙ zero-mod p

negative_some : (p c : ℕ) → (c == 0) ≡ false → c < p → 0 < negative_of p c
negative_some p zero e lt = cc e
negative_some p (suc c) e lt = let small : p - suc c < p = omega (arith, lt) in let is : (p - suc c) % p ≡ p - suc c = mod-eq_of_lt small in
    omega (arith, is, lt)

negative_small : (p c : ℕ) → c < p → negative_of p c < p
negative_small p c lt = mod-lt (p - c) {m = p} (omega (arith, lt))

module _ (p : ℕ) (relations : List (List Term)) (qs : List Product) where
  abbrev fs : List (List Term)
  fs = map (triple_terms relations) qs

  abbrev at : Factor → Product
  at f = get_or qs f.place (triple 0 [] [])

  -- the element at the place of a factor is the product of the triple there
  pub element_at : (f : Factor) → f.place < length qs → get_or fs f.place [] ≡ triple_terms relations (at f)
  element_at f within = get_or-map (triple_terms relations) qs f.place (triple 0 [] []) [] within

  cancels : (factors : List Factor) → All (λ f. f.residue < p) factors → HasPlaces (length qs) factors → (w : List ℕ)
      → (total_at (combined fs factors) w + total_at (flat_map (product_terms relations) (negative_products p qs factors)) w) % p ≡ 0
  cancels [] h k w = zero-mod p
  cancels (f ∷ factors) h k w =
      let small = All-head (λ x. x.residue < p) f factors h in
      let rest = cancels factors (All-tail (λ x. x.residue < p) f factors h) (All-tail (λ x. x.place < length qs) f factors k) w in
      let x = total_at (triple_terms relations (at f)) w in
      let others = total_at (combined fs factors) w in
      let products = total_at (flat_map (product_terms relations) (negative_products p qs factors)) w in
      let n = total_at (flat_map (product_terms relations) (negative_at p qs f)) w in
      let first : total_at (combined fs (f ∷ factors)) w ≡ f.residue * x + others =
      total_at-append (scaled f.residue (get_or fs f.place [])) (combined fs factors) w
      ∙ ap (λ (m : ℕ). m + others) (total_at-scaled f.residue (get_or fs f.place []) w
      ∙ ap (λ (g : List Term). f.residue * total_at g w) (element_at f (All-head (λ x. x.place < length qs) f factors k))) in
      let second : total_at (flat_map (product_terms relations) (negative_products p qs (f ∷ factors))) w ≡ n + products =
      ap (λ (g : List Term). total_at g w) (flat_map-append (product_terms relations) (negative_at p qs f) (negative_products p qs factors))
      ∙ total_at-append (flat_map (product_terms relations) (negative_at p qs f)) (flat_map (product_terms relations) (negative_products p qs factors)) w in
      let own : (f.residue * x + n) % p ≡ 0 = by_test (f.residue == 0) refl small in
      let apart : f.residue * x + others + (n + products) ≡ (f.residue * x + n) + (others + products) = omega arith in
      ap (λ (m : ℕ). m % p) (ap₂ (λ (a b : ℕ). a + b) first second ∙ apart) ∙ add-mod (f.residue * x + n) (others + products) p
      ∙ ap₂ (λ (a b : ℕ). (a + b) % p) own rest ∙ zero-mod p
    where
      by_test : (b : Bool) → (f.residue == 0) ≡ b → f.residue < p
          → (f.residue * total_at (triple_terms relations (at f)) w + total_at
          (flat_map (product_terms relations) (cond b [] (record (at f) { coefficient = negative_of p f.residue } ∷ []))) w) % p ≡ 0
      by_test true e lt = let none : f.residue ≡ 0 = eqb-true f.residue 0 e in
          ap (λ (c : ℕ). (c * total_at (triple_terms relations (at f)) w + 0) % p) none
          ∙ ap (λ (c : ℕ). (c + 0) % p) (zero-mul (total_at (triple_terms relations (at f)) w)) ∙ zero-mod p
      by_test false e lt =
          ap (λ (g : List Term). (f.residue * total_at (triple_terms relations (at f)) w + total_at g w) % p)
          (append-nil (scaled (negative_of p f.residue) (triple_terms relations (at f))))
          ∙ ap (λ (c : ℕ). (f.residue * total_at (triple_terms relations (at f)) w + c) % p)
          (total_at-scaled (negative_of p f.residue) (triple_terms relations (at f)) w)
          ∙ negative_times p f.residue (total_at (triple_terms relations (at f)) w) lt

  -- what is left of f and these products are f
  pub negative_sum_with : (f t : List Term) (factors : List Factor) → All (λ f. f.residue < p) factors → HasPlaces (length qs) factors →
      IsSame p t (f ++ combined fs factors) → IsSumWith p relations f t (negative_products p qs factors)
  negative_sum_with f t factors h k s w =
      let c = total_at (combined fs factors) w in
      let products = flat_map (product_terms relations) (negative_products p qs factors) in
      let n = total_at products w in
      let back : (total_at f w + (c + n)) % p ≡ total_at f w % p = sym (add-mod-mod (total_at f w) (c + n) p)
      ∙ ap (λ (m : ℕ). (total_at f w + m) % p) (cancels factors h k w) ∙ ap (λ (m : ℕ). m % p) (add-zero (total_at f w)) in
      let apart : total_at f w + c + n ≡ total_at f w + (c + n) = omega arith in
      sym (ap (λ (m : ℕ). m % p) (total_at-append t products w) ∙ add-mod (total_at t w) n p
      ∙ ap (λ (m : ℕ). (m + n % p) % p) (s w ∙ ap (λ (m : ℕ). m % p) (total_at-append f (combined fs factors) w))
      ∙ sym (add-mod (total_at f w + c) n p) ∙ ap (λ (m : ℕ). m % p) apart ∙ back)

  -- each of them is a triple with a residue other than 0
  negative_says : (f : Factor) (q : Product) → f.residue < p → Contains (negative_at p qs f) q →
      (c : ℕ) × (0 < c) × (c < p) × (record (at f) { coefficient = c } ≡ q)
  negative_says f q lt m = by_test (f.residue == 0) refl m
    where
      by_test : (b : Bool) → (f.residue == 0) ≡ b → Contains (cond b [] (record (at f) { coefficient = negative_of p f.residue } ∷ [])) q →
          (c : ℕ) × (0 < c) × (c < p) × (record (at f) { coefficient = c } ≡ q)
      by_test true e m = absurd (Contains-none q m)
      by_test false e m = elim (Contains-cases (record (at f) { coefficient = negative_of p f.residue }) [] q m) [
        | inl is ↦ (negative_of p f.residue, negative_some p f.residue e lt, negative_small p f.residue lt, is)
        | inr none ↦ absurd (Contains-none q none)
      ]

module _ (ideal : Ideal) (st : IsSetting ideal) (d : ℕ) where
  abbrev all : List Product
  all = triples ideal.weights ideal.relations d

  -- a triple with a residue other than 0 is a product
  pub product_from_triple : (c : ℕ) (s : Product) → 0 < c → c < ideal.modulus → Contains all s → IsProduct ideal d (record s { coefficient = c })
  product_from_triple c s some small m =
      let t = from_says ideal.weights st.are_weights d 1 ideal.relations s m in
      let k = t.0 in let lt = t.1 in let tr = t.2 in
      let r = get_or ideal.relations k [] in
      let at : relation_at ideal.relations s.relation ≡ r = ap (λ (n : ℕ). get_or ideal.relations n []) (omega (arith, tr.number)) in
      let rel : IsRelation ideal.modulus ideal.weights r = All-contains (IsRelation ideal.modulus ideal.weights) ideal.relations r st.are_relations
      (k, lt, get_or_default ideal.relations k r [] lt) in
      let degree : HasDegree ideal.weights d (product s.left r s.right) =
      subst (λ (n : ℕ). HasDegree ideal.weights n (product s.left r s.right)) tr.degree
      (HasDegree-product ideal.weights (lead_degree ideal.weights r) s.left r s.right (one_degree ideal.modulus ideal.weights r rel)) in
      record {
        other = some;
        residue = small;
        from = omega (arith, tr.number);
        upto = omega (arith, tr.number, lt);
        left_over = tr.left_over;
        right_over = tr.right_over;
        degree = subst (HasDegree ideal.weights d) (ap (λ (f : List Term). product s.left f s.right) (sym at)) degree;
      }

  abbrev Before : Factor → Factor → Type 0
  Before f g = (f.place < g.place) × (g.place < length all) × ((f.residue < ideal.modulus) × (g.residue < ideal.modulus))

  -- the products that take the factors away are a product list
  pub negative_list : (factors : List Factor) → AreFactors ideal.modulus factors → HasPlaces (length all) factors →
      IsProductList ideal d (negative_products ideal.modulus all factors)
  negative_list factors h k = record {
    each = All-from_members (IsProduct ideal d) (negative_products ideal.modulus all factors) (λ q m.
        let f = Contains-flat_map_cases (negative_at ideal.modulus all) factors q m in
        let s = negative_says ideal.modulus ideal.relations all f.0 q (All-contains (λ x. x.residue < ideal.modulus) factors f.0 h.residues f.1) f.2 in
        subst (IsProduct ideal d) s.3
        (product_from_triple s.0 (get_or all f.0.place (triple 0 [] [])) s.1 s.2
        (Contains-get_or all f.0.place (triple 0 [] []) (All-contains (λ x. x.place < length all) factors f.0 k f.1))));
    ordered = AllPairs-flat_map (negative_at ideal.modulus all) Before (StandsBefore ideal.weights) one_alone before factors
        (λ i j e lt within. (h.rising i j e lt within, k j e within, (h.residues i e (omega (arith, lt, within)), h.residues j e within)));
  }
    where
      one_alone : (f : Factor) → AllPairs (StandsBefore ideal.weights) (negative_at ideal.modulus all f)
      one_alone f = by_test (f.residue == 0)
        where
          by_test : (b : Bool) → AllPairs (StandsBefore ideal.weights) (cond b []
              (record (get_or all f.place (triple 0 [] [])) { coefficient = negative_of ideal.modulus f.residue } ∷ []))
          by_test true = AllPairs-nil (StandsBefore ideal.weights)
          by_test false = λ i j e lt within. absurd (omega (arith, lt, within))

      before : (f g : Factor) (q r : Product) → Before f g → Contains (negative_at ideal.modulus all f) q → Contains (negative_at ideal.modulus all g) r
          → StandsBefore ideal.weights q r
      before f g q r b m n =
          let x = negative_says ideal.modulus ideal.relations all f q b.2.0 m in
          let y = negative_says ideal.modulus ideal.relations all g r b.2.1 n in
          subst (λ (u : Product). StandsBefore ideal.weights u r) x.3 (subst
          (StandsBefore ideal.weights (record (get_or all f.place (triple 0 [] [])) { coefficient = x.0 })) y.3
          (from_ordered ideal.weights st.are_weights d 1 ideal.relations f.place g.place (triple 0 [] []) b.0 b.1))
