-- A degree of 1 or more is spanned by its neighbours: letters before and behind members of lower degrees, and
-- relations.
use Rattle.std.proofs.Common.{ap₂, ◌≡◌, ◌≢◌, ◌+◌, ◌-◌, ◌%◌, ◌<◌, ◌≤◌, ℕ, zero, suc, List, [], ◌∷◌, ◌++◌, map, length, get_or, refl, sym, ap, ◌∙◌}
use Rattle.std.proofs.Common.{arith, subst, append-nil}
use Rattle.std.specs.List.{Contains, flat_map}
use Rattle.std.proofs.Math.Nat.{one-mul}
use Rattle.std.proofs.lemmas.List.Elements.{All-cons, All-contains, All-head, All-map, All-nil, All-tail, All-weaker}
use Rattle.words.specs.Words.{IsOver, degree_of, weight_of}
use Rattle.field_table.specs.Residues.{IsFieldModulus}
use Rattle.free_poly.specs.declared.term.Term.{Term}
use Rattle.free_poly.specs.Terms.{HasDegree, product, scaled, total_at}
use Rattle.free_poly.proofs.Products.{HasResidues-product, IsPolynomial-product, UsesLetters-product, degree_of-round, product-alone, product-product}
use Rattle.free_poly.proofs.Totals.{total_at-scaled}
use Rattle.linear_algebra.specs.Fields.{Field}
use Rattle.linear_algebra.specs.Spans.{sum_of, IsInSpan}
use Rattle.linear_algebra.specs.Mod.{Residue}
use Rattle.linear_algebra.proofs.Elimination.{IsInSpan-trans}
use Rattle.linear_algebra.proofs.ModField.{same_residue}
use Rattle.ideal_laws.specs.Ideal.{Ideal, IsElement, IsInIdeal, IsMultiple, Multiple, terms_of}
use Rattle.ideal_laws.specs.Laws.{IsNeighbour, before, behind, relation, IsNeighbourSpan, IsRelation, IsSetting, IsSpanned, Part, part_terms}
use Rattle.ideal_laws.proofs.Closed.{inside_product}
use Rattle.ideal_laws.proofs.Vectors.{IsProductVector, ideal_from_span, same_vectors, span_from_ideal, vector_of-append, vector_of-scaled}
use Rattle.ideal_laws.proofs.Vectors as vectors

-- the last letter of a word that is not empty
pub record IsEnded (v : List ℕ) : Type 0 where
  pub front : List ℕ
  pub last : ℕ
  pub is : v ≡ front ++ last ∷ []

-- a word that is not empty has a last letter
pub ended : (v : List ℕ) → v ≢ [] → IsEnded v
ended [] ne = absurd (ne refl)
ended (x ∷ []) ne = record { front = []; last = x; is = refl }
ended (x ∷ y ∷ v) ne =
    let e = ended (y ∷ v) (λ is. cc is) in
    record { front = x ∷ e.front; last = e.last; is = ap (λ (r : List ℕ). x ∷ r) e.is }

module _ (ideal : Ideal) (st : IsSetting ideal) where
  abbrev fm : IsFieldModulus ideal.modulus
  fm = st.modulus

  abbrev K : Field
  K = vectors.K ideal.modulus fm

  -- the product of a relation by words over the letters, where it has degree d, is a member of degree d
  pub product_inside : (d : ℕ) (m : Multiple) → IsMultiple ideal d m → IsInIdeal ideal d (product m.left m.relation m.right)
  product_inside d m h =
      let r = All-contains (IsRelation ideal.modulus ideal.weights) ideal.relations m.relation st.are_relations h.among in
      let f = product m.left m.relation m.right in
      let one : Multiple = record { factor = 1; left = m.left; relation = m.relation; right = m.right } in
      record {
        element = record {
          form = IsPolynomial-product ideal.weights st.are_weights m.left m.relation m.right r.one_degree r.form;
          residues = HasResidues-product ideal.modulus m.left m.relation m.right r.residues;
          letters = UsesLetters-product (length ideal.weights) m.left m.relation m.right h.left_over h.right_over r.letters;
          degree = h.degree;
        };
        multiples = one ∷ [];
        each = All-cons (IsMultiple ideal d) one [] (record {
          residue = omega (arith, fm.two_or_more);
          left_over = h.left_over;
          right_over = h.right_over;
          among = h.among;
          degree = h.degree;
        }) (All-nil (IsMultiple ideal d));
        sum = λ w. ap (λ (n : ℕ). n % ideal.modulus) (sym (ap (λ (g : List Term). total_at g w) (append-nil (scaled 1 f)) ∙ total_at-scaled 1 f w
            ∙ one-mul (total_at f w)));
      }

  -- a word put before or behind a letter less
  module _ (d : ℕ) where
    first_letter : (x : ℕ) (u : List ℕ) (r : List Term) (v : List ℕ) → r ≢ [] → Contains ideal.relations r → IsOver (length ideal.weights) (x ∷ u) →
        IsOver (length ideal.weights) v
        → HasDegree ideal.weights d (product (x ∷ u) r v) → IsNeighbour ideal d (product (x ∷ u) r v)
    first_letter x u r v ne among hu hv h =
        let is : product (x ∷ []) (product u r v) [] ≡ product (x ∷ u) r v = product-product (x ∷ []) u r v [] ∙ ap (product (x ∷ u) r) (append-nil v) in
        let inner : HasDegree ideal.weights (d - weight_of ideal.weights x) (product u r v) =
        All-map (λ t. degree_of ideal.weights t.word ≡ d - weight_of ideal.weights x)
        (λ t. record { word = u ++ t.word ++ v; coefficient = t.coefficient }) r
        (λ k t within. omega (
          arith,
          sym (degree_of-round ideal.weights (x ∷ u) (get_or r k t).word v) ∙ shown r k t within h,
          degree_of-round ideal.weights u (get_or r k t).word v,
        )) in
        let small : weight_of ideal.weights x ≤ d = some_degree r ne h in
        subst (IsNeighbour ideal d) is
        (before x (product u r v) (All-head (λ y. y < length ideal.weights) x u hu) small
        (product_inside (d - weight_of ideal.weights x) (record { factor = 0; left = u; relation = r; right = v })
        (record {
          residue = omega (arith, fm.two_or_more);
          left_over = All-tail (λ y. y < length ideal.weights) x u hu;
          right_over = hv;
          among = among;
          degree = inner;
        })))
      where
        shown : (r : List Term) (k : ℕ) (t : Term) → k < length r → HasDegree ideal.weights d (product (x ∷ u) r v) →
            degree_of ideal.weights ((x ∷ u) ++ (get_or r k t).word ++ v) ≡ d
        shown [] k t within h = absurd (omega (arith, within))
        shown (s ∷ r) zero t within h = All-head (λ t. degree_of ideal.weights t.word ≡ d) _ (product (x ∷ u) r v) h
        shown (s ∷ r) (suc k) t within h = shown r k t (omega (arith, within)) (All-tail (λ t. degree_of ideal.weights t.word ≡ d) _ (product (x ∷ u) r v) h)

        some_degree : (r : List Term) → r ≢ [] → HasDegree ideal.weights d (product (x ∷ u) r v) → weight_of ideal.weights x ≤ d
        some_degree [] ne h = absurd (ne refl)
        some_degree (s ∷ r) ne h = omega (
          arith,
          sym (degree_of-round ideal.weights (x ∷ u) s.word v)
              ∙ All-head (λ t. degree_of ideal.weights t.word ≡ d) _ (product (x ∷ u) r v) h,
        )

    last_letter : (front : List ℕ) (x : ℕ) (r : List Term) → r ≢ [] → Contains ideal.relations r → IsOver (length ideal.weights) front
        → x < length ideal.weights
        → HasDegree ideal.weights d (product [] r (front ++ x ∷ [])) → IsNeighbour ideal d (product [] r (front ++ x ∷ []))
    last_letter front x r ne among hf hx h =
        let is : product [] (product [] r front) (x ∷ []) ≡ product [] r (front ++ x ∷ []) = product-product [] [] r front (x ∷ []) in
        let inner : HasDegree ideal.weights (d - weight_of ideal.weights x) (product [] r front) =
        All-map (λ t. degree_of ideal.weights t.word ≡ d - weight_of ideal.weights x)
        (λ t. record { word = [] ++ t.word ++ front; coefficient = t.coefficient }) r
        (λ k t within. omega (arith, sym (ended_degree (get_or r k t).word) ∙ shown r k t within h)) in
        let small : weight_of ideal.weights x ≤ d = some_degree r ne h in
        subst (IsNeighbour ideal d) is
        (behind x (product [] r front) hx small
        (product_inside (d - weight_of ideal.weights x) (record { factor = 0; left = []; relation = r; right = front })
        (record {
          residue = omega (arith, fm.two_or_more);
          left_over = All-nil (λ y. y < length ideal.weights);
          right_over = hf;
          among = among;
          degree = inner;
        })))
      where
        ended_degree : (w : List ℕ) → degree_of ideal.weights ([] ++ w ++ (front ++ x ∷ [])) ≡ degree_of ideal.weights ([] ++ w ++ front) + weight_of
            ideal.weights x
        ended_degree w = omega (
          arith,
          degree_of-round ideal.weights [] w (front ++ x ∷ []),
          degree_of-round ideal.weights [] w front,
          degree_of-round ideal.weights [] front (x ∷ []),
        )

        shown : (r : List Term) (k : ℕ) (t : Term) → k < length r → HasDegree ideal.weights d (product [] r (front ++ x ∷ [])) →
            degree_of ideal.weights ([] ++ (get_or r k t).word ++ (front ++ x ∷ [])) ≡ d
        shown [] k t within h = absurd (omega (arith, within))
        shown (s ∷ r) zero t within h = All-head (λ t. degree_of ideal.weights t.word ≡ d) _ (product [] r (front ++ x ∷ [])) h
        shown (s ∷ r) (suc k) t within h = shown r k t (omega (arith, within))
            (All-tail (λ t. degree_of ideal.weights t.word ≡ d) _ (product [] r (front ++ x ∷ [])) h)

        some_degree : (r : List Term) → r ≢ [] → HasDegree ideal.weights d (product [] r (front ++ x ∷ [])) → weight_of ideal.weights x ≤ d
        some_degree [] ne h = absurd (ne refl)
        some_degree (s ∷ r) ne h = omega (
          arith,
          sym (ended_degree s.word) ∙ All-head (λ t. degree_of ideal.weights t.word ≡ d) _
              (product [] r (front ++ x ∷ [])) h,
        )

    -- a product u * r * v of degree d, of a relation r other than 0 by words over the letters, is a neighbour of degree d
    pub product_neighbour : (u : List ℕ) (r : List Term) (v : List ℕ) → r ≢ [] → Contains ideal.relations r → IsOver (length ideal.weights) u
        → IsOver (length ideal.weights) v
        → HasDegree ideal.weights d (product u r v) → IsNeighbour ideal d (product u r v)
    product_neighbour (x ∷ u) r v ne among hu hv h = first_letter x u r v ne among hu hv h
    product_neighbour [] r [] ne among hu hv h = subst (IsNeighbour ideal d) (sym (product-alone r))
        (relation r among (subst (HasDegree ideal.weights d) (product-alone r) h))
    product_neighbour [] r (y ∷ v) ne among hu hv h =
        let e = ended (y ∷ v) (λ is. cc is) in
        let over = subst (IsOver (length ideal.weights)) e.is hv in
        subst (λ (w : List ℕ). IsNeighbour ideal d (product [] r w)) (sym e.is)
        (last_letter e.front e.last r ne among (front_over e.front e.last over) (last_over e.front e.last over)
        (subst (λ (w : List ℕ). HasDegree ideal.weights d (product [] r w)) e.is h))
      where
        front_over : (f : List ℕ) (x : ℕ) → IsOver (length ideal.weights) (f ++ x ∷ []) → IsOver (length ideal.weights) f
        front_over [] x h = All-nil (λ y. y < length ideal.weights)
        front_over (a ∷ f) x h = All-cons (λ y. y < length ideal.weights) a f (All-head (λ y. y < length ideal.weights) a _ h)
            (front_over f x (All-tail (λ y. y < length ideal.weights) a _ h))

        last_over : (f : List ℕ) (x : ℕ) → IsOver (length ideal.weights) (f ++ x ∷ []) → x < length ideal.weights
        last_over [] x h = All-head (λ y. y < length ideal.weights) x [] h
        last_over (a ∷ f) x h = last_over f x (All-tail (λ y. y < length ideal.weights) a _ h)

    abbrev part_of : Multiple → Part
    part_of m = record { factor = m.factor; element = product m.left m.relation m.right }

    same_parts : (ms : List Multiple) → flat_map terms_of ms ≡ flat_map part_terms (map part_of ms)
    same_parts [] = refl
    same_parts (m ∷ ms) = ap (λ (f : List Term). terms_of m ++ f) (same_parts ms)

    -- a member of degree d is a sum of multiples of neighbours of degree d
    pub spanned : (f : List Term) → IsInIdeal ideal d f → IsSpanned ideal.modulus (IsNeighbour ideal d) f
    spanned f i = record {
      parts = map part_of i.multiples;
      each = All-map (λ c. (c.factor < ideal.modulus) × IsNeighbour ideal d c.element) part_of i.multiples (λ k m within.
          let h = i.each k m within in (
            h.residue,
            product_neighbour _ _ _ (All-contains (IsRelation ideal.modulus ideal.weights) ideal.relations _ st.are_relations h.among).other h.among
                h.left_over h.right_over h.degree,
          ));
      sum = λ w. i.sum w ∙ ap (λ (g : List Term). total_at g w % ideal.modulus) (same_parts i.multiples);
    }

    -- a neighbour of degree d is a member of degree d
    pub neighbour_inside : (g : List Term) → IsNeighbour ideal d g → IsInIdeal ideal d g
    neighbour_inside g (before x f lt le i) =
        subst (λ (n : ℕ). IsInIdeal ideal n (product (x ∷ []) f [])) (omega (arith, le))
        (inside_product ideal.modulus ideal.weights st.are_weights ideal.relations (d - weight_of ideal.weights x) (x ∷ []) f []
        (All-cons (λ y. y < length ideal.weights) x [] lt (All-nil (λ y. y < length ideal.weights))) (All-nil (λ y. y < length ideal.weights)) i)
    neighbour_inside g (behind x f lt le i) =
        subst (λ (n : ℕ). IsInIdeal ideal n (product [] f (x ∷ []))) (omega (arith, le))
        (inside_product ideal.modulus ideal.weights st.are_weights ideal.relations (d - weight_of ideal.weights x) [] f (x ∷ [])
        (All-nil (λ y. y < length ideal.weights))
        (All-cons (λ y. y < length ideal.weights) x [] lt (All-nil (λ y. y < length ideal.weights))) i)
    neighbour_inside g (relation r among h) =
        subst (IsInIdeal ideal d) (product-alone r)
        (product_inside d (record { factor = 0; left = []; relation = r; right = [] })
        (record {
          residue = omega (arith, fm.two_or_more);
          left_over = All-nil (λ y. y < length ideal.weights);
          right_over = All-nil (λ y. y < length ideal.weights);
          among = among;
          degree = subst (HasDegree ideal.weights d) (sym (product-alone r)) h;
        }))

    abbrev V : Type 0
    V = List ℕ → Residue ideal.modulus

    abbrev IsMember : V → Type 0
    IsMember v = (g : List Term) × IsInIdeal ideal d g × (v ≡ vectors.vector_of ideal.modulus fm g)

    abbrev pub vector_part : Part → Residue ideal.modulus × V
    vector_part c = (vectors.of ideal.modulus fm c.factor, vectors.vector_of ideal.modulus fm c.element)

    -- the vector of a sum of multiples of elements is the sum of these multiples of their vectors
    pub vector_of-parts : (cs : List Part) (w : List ℕ) → vectors.vector_of ideal.modulus fm (flat_map part_terms cs) w ≡ sum_of K (List ℕ) (map vector_part cs)
        w
    vector_of-parts [] w = same_residue ideal.modulus _ _ refl
    vector_of-parts (c ∷ cs) w =
        vector_of-append ideal.modulus fm (part_terms c) (flat_map part_terms cs) w
        ∙ ap₂ K.add (vector_of-scaled ideal.modulus fm c.factor c.element w) (vector_of-parts cs w)

    -- an element that is a sum of multiples of members of its degree is a member
    pub inside_from_members : (f : List Term) → IsElement ideal.modulus ideal.weights d f → IsSpanned ideal.modulus (IsInIdeal ideal d) f → IsInIdeal ideal d f
    inside_from_members f e s =
        let members : IsInSpan K (List ℕ) IsMember (vectors.vector_of ideal.modulus fm f) = record {
          parts = map vector_part s.parts;
          each = All-map (λ c. IsMember c.1) vector_part s.parts (λ k c within. (_, (s.each k c within).1, refl));
          sum = λ w. same_vectors ideal.modulus fm f (flat_map part_terms s.parts) s.sum w ∙ vector_of-parts s.parts w;
        } in
        ideal_from_span ideal fm d f e
        (IsInSpan-trans K (List ℕ) IsMember (IsProductVector ideal fm d)
        (λ v m. subst (IsInSpan K (List ℕ) (IsProductVector ideal fm d)) (sym m.2)
        (span_from_ideal ideal fm d m.0 m.1)) (vectors.vector_of ideal.modulus fm f) members)

    from_neighbours : (f : List Term) → IsElement ideal.modulus ideal.weights d f → IsSpanned ideal.modulus (IsNeighbour ideal d) f → IsInIdeal ideal d f
    from_neighbours f e s = inside_from_members f e (record {
      parts = s.parts;
      each =
          All-weaker (λ c. (c.factor < ideal.modulus) × IsNeighbour ideal d c.element)
          (λ c. (c.factor < ideal.modulus) × IsInIdeal ideal d c.element) (λ c h. (h.0, neighbour_inside c.element h.1)) s.parts s.each;
      sum = s.sum;
    })

-- an element of a degree of 1 or more is a member exactly where it is a sum of multiples of neighbours
pub neighbour_span : IsNeighbourSpan
neighbour_span ideal st d pos f e = (spanned ideal st d f, from_neighbours ideal st d f e)
