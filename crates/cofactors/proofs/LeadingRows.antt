-- Rows with falling leading words that span the products of a degree lead with each leading word of the ideal.
use Rattle.std.proofs.Common.{ap₂, ◌≡◌, ◌-◌, ◌%◌, ℕ, List, [], ◌∷◌, ◌++◌, map, refl, sym, ap, ◌∙◌, arith, subst, All, AllPairs, Some}
use Rattle.std.specs.List.{Contains, flat_map}
use Rattle.std.proofs.Math.Nat.{zero-mod}
use Rattle.std.proofs.lemmas.List.Elements.{All-contains, All-head, All-map, All-weaker, Contains-get_or}
use Rattle.words.specs.Order.{IsLetterwiseGreater}
use Rattle.words.proofs.Members.{AllPairs-map, All-from_members, Contains-map, Contains-map_cases}
use Rattle.free_poly.specs.declared.term.Term.{Term}
use Rattle.free_poly.specs.Degrees.{Stands}
use Rattle.free_poly.specs.Poly.{IsMonic, lead_of}
use Rattle.free_poly.specs.Terms.{product, scaled, total_at}
use Rattle.free_poly.proofs.NormalForms.{above_all}
use Rattle.free_poly.proofs.Sums.{Stands-own}
use Rattle.linear_algebra.specs.Fields.{Field}
use Rattle.linear_algebra.specs.Spans.{IsInSpan, sum_of}
use Rattle.linear_algebra.specs.Mod.{Residue}
use Rattle.linear_algebra.proofs.Elimination.{IsInSpan-trans}
use Rattle.linear_algebra.proofs.ModField.{same_residue}
use Rattle.ideal_laws.specs.Ideal.{Ideal, IsElement, IsLeadingWord, IsMultiple, Multiple, terms_of}
use Rattle.ideal_laws.specs.Laws.{IsSetting}
use Rattle.ideal_laws.proofs.Vectors.{IsProductVector, span_from_ideal, same_vectors, vector_of-append, vector_of-scaled}
use Rattle.ideal_laws.proofs.Vectors as vectors
use Rattle.cofactors.specs.declared.product.Product.{Product}
use Rattle.cofactors.specs.declared.row.Row.{Row}
use Rattle.cofactors.specs.NormalForm.{IsNormalForm}
use Rattle.cofactors.specs.ProductList.{IsProduct, IsProductList, IsSumWith, product_terms, relation_at, triple_terms, triples}
use Rattle.cofactors.specs.Rows.{AreLeaders, IsPlusSpan, IsRow, IsZeroAtLeads, lead_word}
use Rattle.cofactors.proofs.Clearing.{none_above, one_at_lead}
use Rattle.cofactors.proofs.Echelon as echelon
use Rattle.cofactors.proofs.Echelon.{IsOf, greatest_leads}
use Rattle.cofactors.proofs.ProductLists.{triple_of}

module _ (ideal : Ideal) (st : IsSetting ideal) (d : ℕ) where
  abbrev Kd : Field
  Kd = vectors.K ideal.modulus st.modulus

  abbrev Vd : Type 0
  Vd = List ℕ → Residue ideal.modulus

  abbrev vecd : List Term → Vd
  vecd f = vectors.vector_of ideal.modulus st.modulus f

  -- rows with falling leading words that span the products of the degree
  pub record AreEchelon (es : List (List ℕ × Vd)) : Type 0 where
    pub falling : AllPairs (λ (d e : List ℕ × Vd). IsLetterwiseGreater d.0 e.0) es
    pub rows : All (echelon.IsRow ideal.modulus st.modulus) es
    pub spans : (m : Multiple) → IsMultiple ideal d m → IsInSpan Kd (List ℕ) (IsOf ideal.modulus st.modulus es) (vecd (product m.left m.relation m.right))

  first_of : (f : List Term) (w : List ℕ) → IsElement ideal.modulus ideal.weights d f → lead_of f ≡ Some w →
      (vecd f w ≡ Kd.zero → ⊥) × ((y : List ℕ) → IsLetterwiseGreater y w → vecd f y ≡ Kd.zero)
  first_of [] w e l = cc l
  first_of (t ∷ f) w e l =
      let is : t.word ≡ w = cc l in (
        (λ z. All-head (λ (s : Term). Stands ideal.modulus (t ∷ f) s.word) t f (Stands-own ideal.modulus (t ∷ f) e.form e.residues)
            (ap (λ (x : List ℕ). total_at (t ∷ f) x % ideal.modulus) is ∙ ap (λ (n : Residue ideal.modulus). n.0) z ∙ zero-mod ideal.modulus)),
        (λ y g. same_residue ideal.modulus _ _ (ap (λ (n : ℕ). n % ideal.modulus) (above_all y t f e.form (subst (IsLetterwiseGreater y) (sym is) g)))),
      )

  -- each leading word of the ideal leads a row
  pub leads_a_row : (es : List (List ℕ × Vd)) → AreEchelon es → (w : List ℕ) → IsLeadingWord ideal d w → (e : List ℕ × Vd) × Contains es e × (e.0 ≡ w)
  leads_a_row es h w l =
      let o = first_of l.member w l.inside.element l.lead in
      greatest_leads ideal.modulus st.modulus es h.falling h.rows (vecd l.member)
      (IsInSpan-trans Kd (List ℕ) (IsProductVector ideal st.modulus d) (IsOf ideal.modulus st.modulus es)
      (λ g m. subst (IsInSpan Kd (List ℕ) (IsOf ideal.modulus st.modulus es)) (sym m.is) (h.spans m.multiple m.is_multiple))
      (vecd l.member) (span_from_ideal ideal st.modulus d l.member l.inside))
      w o.0 o.1

  -- what is 0 at the leading word of each row is 0 at each leading word of the ideal
  pub zero_at_leads : (es : List (List ℕ × Vd)) → AreEchelon es → (left : Vd) → ((e : List ℕ × Vd) → Contains es e → left e.0 ≡ Kd.zero) →
      (w : List ℕ) → IsLeadingWord ideal d w → left w ≡ Kd.zero
  zero_at_leads es h left zero w l = let e = leads_a_row es h w l in subst (λ (x : List ℕ). left x ≡ Kd.zero) e.2 (zero e.0 e.1)

  -- a product as a multiple
  multiple_of : Product → Multiple
  multiple_of q = record { factor = q.coefficient; left = q.left; relation = relation_at ideal.relations q.relation; right = q.right }

  is_multiple : (q : Product) → IsProduct ideal d q → IsMultiple ideal d (multiple_of q)
  unfolding multiple_of
  is_multiple q h = record {
    residue = h.residue;
    left_over = h.left_over;
    right_over = h.right_over;
    among = Contains-get_or ideal.relations (q.relation - 1) [] (omega (arith, h.from, h.upto));
    degree = h.degree;
  }

  same_terms : (qs : List Product) → flat_map (product_terms ideal.relations) qs ≡ flat_map terms_of (map multiple_of qs)
  unfolding multiple_of
  same_terms [] = refl
  same_terms (q ∷ qs) = ap (λ (f : List Term). product_terms ideal.relations q ++ f) (same_terms qs)

  -- an element without leading words and a product list whose sum is the rest of f are the normal form and its
  -- product list
  pub normal_from_products : (f t : List Term) (qs : List Product) → IsElement ideal.modulus ideal.weights d t → IsProductList ideal d qs →
      IsSumWith ideal.modulus ideal.relations f t qs
      → All (λ s. IsLeadingWord ideal d s.word → ⊥) t → IsNormalForm ideal d f t
  normal_from_products f t qs e h s none = record {
    element = e;
    multiples = map multiple_of qs;
    each = All-map (IsMultiple ideal d) multiple_of qs
        (All-weaker (IsProduct ideal d) (λ q. IsMultiple ideal d (multiple_of q)) is_multiple qs h.each);
    sum = λ w. s w ∙ ap (λ (g : List Term). total_at (t ++ g) w % ideal.modulus) (same_terms qs);
    normal = none;
  }

  -- a row with its leading word, as a vector
  abbrev entry : Row → List ℕ × Vd
  entry r = (lead_word r, vecd r.element)

  part_sum : (parts : List (ℕ × Row)) (w : List ℕ) → vecd (flat_map (λ (c : ℕ × Row). scaled c.0 c.1.element) parts) w
      ≡ sum_of Kd (List ℕ) (map (λ (c : ℕ × Row). (vectors.of ideal.modulus st.modulus c.0, vecd c.1.element)) parts) w
  part_sum [] w = same_residue ideal.modulus _ _ refl
  part_sum (c ∷ cs) w =
      vector_of-append ideal.modulus st.modulus (scaled c.0 c.1.element) (flat_map (λ (x : ℕ × Row). scaled x.0 x.1.element) cs) w
      ∙ ap₂ Kd.add (vector_of-scaled ideal.modulus st.modulus c.0 c.1.element w) (part_sum cs w)

  span_from_parts : (rows : List Row) (f : List Term) → IsPlusSpan ideal.modulus rows f []
      → IsInSpan Kd (List ℕ) (IsOf ideal.modulus st.modulus (map entry rows)) (vecd f)
  span_from_parts rows f s = record {
    parts = map (λ (c : ℕ × Row). (vectors.of ideal.modulus st.modulus c.0, vecd c.1.element)) s.parts;
    each = All-map (λ (c : Residue ideal.modulus × Vd). IsOf ideal.modulus st.modulus (map entry rows) c.1)
        (λ (c : ℕ × Row). (vectors.of ideal.modulus st.modulus c.0, vecd c.1.element)) s.parts
        (All-weaker (λ (c : ℕ × Row). Contains rows c.1) (λ (c : ℕ × Row). IsOf ideal.modulus st.modulus (map entry rows) (vecd c.1.element))
        (λ c m. (entry c.1, Contains-map entry rows c.1 m, refl)) s.parts s.among);
    sum = λ w. same_vectors ideal.modulus st.modulus f (flat_map (λ (c : ℕ × Row). scaled c.0 c.1.element) s.parts) s.sum w ∙ part_sum s.parts w;
  }

  row_of_leader : (r : Row) → IsRow ideal.modulus r → IsMonic r.element → echelon.IsRow ideal.modulus st.modulus (entry r)
  row_of_leader r row monic = record {
    one = same_residue ideal.modulus _ _ (ap (λ (n : ℕ). n % ideal.modulus) (one_at_lead r.element monic row.form));
    above = λ y g. same_residue ideal.modulus _ _ (ap (λ (n : ℕ). n % ideal.modulus) (none_above r.element y row.form g));
  }

  are_echelon : (rows : List Row) → AreLeaders ideal.modulus rows → All (λ f. IsPlusSpan ideal.modulus rows f [])
      (map (triple_terms ideal.relations) (triples ideal.weights ideal.relations d)) → AreEchelon (map entry rows)
  are_echelon rows h spanned = record {
    falling = AllPairs-map entry (λ (r s : Row). IsLetterwiseGreater (lead_word r) (lead_word s))
        (λ (x y : List ℕ × Vd). IsLetterwiseGreater x.0 y.0) (λ r s g. g) rows h.falling;
    rows = All-map (echelon.IsRow ideal.modulus st.modulus) entry rows (All-from_members (λ r. echelon.IsRow ideal.modulus st.modulus (entry r)) rows
        (λ r m. row_of_leader r (All-contains (IsRow ideal.modulus) rows r h.each m) (All-contains (λ (s : Row). IsMonic s.element) rows r h.monic m)));
    spans = λ m i.
        let q = triple_of ideal st d m i in
        subst (λ (f : List Term). IsInSpan Kd (List ℕ) (IsOf ideal.modulus st.modulus (map entry rows)) (vecd f)) q.2
        (span_from_parts rows (triple_terms ideal.relations q.0)
        (All-contains (λ (f : List Term). IsPlusSpan ideal.modulus rows f []) (map (triple_terms ideal.relations) (triples ideal.weights ideal.relations d))
        (triple_terms ideal.relations q.0) spanned (Contains-map (triple_terms ideal.relations) (triples ideal.weights ideal.relations d) q.0 q.1)));
  }

  -- an element that is 0 at the leading words of the rows has no leading word
  pub normal_at_leads : (rows : List Row) → AreLeaders ideal.modulus rows → All (λ f. IsPlusSpan ideal.modulus rows f [])
      (map (triple_terms ideal.relations) (triples ideal.weights ideal.relations d)) → (t : List Term) → IsElement ideal.modulus ideal.weights d t
      → IsZeroAtLeads rows t → All (λ s. IsLeadingWord ideal d s.word → ⊥) t
  normal_at_leads rows h spanned t e zero = All-from_members (λ s. IsLeadingWord ideal d s.word → ⊥) t (λ s m l.
      let none : vecd t s.word ≡ Kd.zero = zero_at_leads (map entry rows) (are_echelon rows h spanned) (vecd t)
      (λ x k. let r = Contains-map_cases entry rows x k in subst (λ (y : List ℕ × Vd). vecd t y.0 ≡ Kd.zero) r.2
      (same_residue ideal.modulus _ _ (ap (λ (n : ℕ). n % ideal.modulus) (All-contains (λ (r : Row). total_at t (lead_word r) ≡ 0) rows r.0 zero r.1)))) s.word
      l in
      All-contains (λ (u : Term). Stands ideal.modulus t u.word) t s (Stands-own ideal.modulus t e.form e.residues) m
      (ap (λ (n : Residue ideal.modulus). n.0) none ∙ zero-mod ideal.modulus))
