-- A degree is spanned by the reducers of its words, its relations and the rows of its obstructions.
use Rattle.std.proofs.Common.{◌≡◌, ◌⊎◌, ◌+◌, ◌-◌, ◌<◌, ◌≤◌, ℕ, zero, suc, List, [], ◌∷◌, ◌++◌, map, length, take, drop, refl, sym, ap, ◌∙◌, inl}
use Rattle.std.proofs.Common.{inr, arith, AllPairs, subst, length-append}
use Rattle.std.specs.List.{Contains, flat_map, range_with_len}
use Rattle.std.proofs.lemmas.Bool.{cases_lt}
use Rattle.std.proofs.lemmas.List.{append_assoc, length-take, take-append-drop}
use Rattle.std.proofs.lemmas.List.Elements.{All-append, All-cons, All-drop, All-map, All-nil, All-take, Contains-append_cases}
use Rattle.words.specs.Words.{IsOver, degree_of, weight_of, words_of_degree}
use Rattle.words.specs.Order.{IsLetterwiseGreater}
use Rattle.words.proofs.Degrees.{Contains-range, listed_word, words_of_degree-falling}
use Rattle.words.proofs.Factors.{factor_occurs}
use Rattle.words.proofs.Members.{Contains-cases, Contains-flat_map, Contains-map, Contains-none}
use Rattle.words.proofs.Weights.{weight_of-bounds}
use Rattle.free_poly.specs.declared.term.Term.{Term}
use Rattle.free_poly.specs.Terms.{HasDegree, product}
use Rattle.free_poly.proofs.NormalForms.{letterwise-trans}
use Rattle.free_poly.proofs.Products.{degree_of-round}
use Rattle.free_poly.proofs.Totals.{letterwise-apart}
use Rattle.linear_algebra.specs.Fields.{Field}
use Rattle.linear_algebra.specs.Spans.{IsInSpan}
use Rattle.linear_algebra.specs.Mod.{Residue}
use Rattle.linear_algebra.proofs.Algebra.{mul_neg, IsInSpan-add, IsInSpan-scaled, IsInSpan-one}
use Rattle.linear_algebra.proofs.Elimination.{IsInSpan-trans, same_span}
use Rattle.ideal_laws.specs.Ideal.{Ideal, IsInIdeal, IsMinimal}
use Rattle.ideal_laws.specs.Laws.{IsNeighbour, before, behind, relation, IsSetting}
use Rattle.ideal_laws.proofs.Differ.{IsBelow, smaller, row, IsRow, differ, lead_over, less, lower_degree, lower_word, shift_lower}
use Rattle.ideal_laws.proofs.Factors.{is_minimal}
use Rattle.ideal_laws.proofs.Neighbours.{spanned, vector_of-parts, vector_part}
use Rattle.ideal_laws.proofs.OneBasis.{minimal_led}
use Rattle.ideal_laws.proofs.Represented.{IsLowerAmong, IsLowerProduct, before_it, represented}
use Rattle.ideal_laws.proofs.Search.{found, none, search_list}
use Rattle.ideal_laws.proofs.Shifted.{shifted, span_shifted, vector_of-product}
use Rattle.ideal_laws.proofs.Vectors.{same_vectors}
use Rattle.ideal_laws.proofs.Vectors as vectors

module _ (ideal : Ideal) (st : IsSetting ideal) (d : ℕ) where
  abbrev K : Field
  K = vectors.K ideal.modulus st.modulus

  abbrev V : Type 0
  V = List ℕ → Residue ideal.modulus

  abbrev vec : List Term → V
  vec f = vectors.vector_of ideal.modulus st.modulus f

  abbrev Lower : List ℕ → V → Type 0
  Lower w v = IsLowerProduct ideal st d d w v

  -- the reducer of a word, a relation, or the row of an obstruction
  pub data IsGenerator (v : V) : Type 0 where
    reducer : (w : List ℕ) (h : Lower w v) → ((u : V) (k : Lower w u) → length h.left ≤ length k.left) → IsGenerator v
    of_relation : (r : List Term) → Contains ideal.relations r → HasDegree ideal.weights d r → v ≡ vec r → IsGenerator v
    obstruction : IsRow ideal st d v → IsGenerator v

  abbrev Sp : V → Type 0
  Sp v = IsInSpan K (List ℕ) IsGenerator v

  -- the leading word of a lower product of degree d is over the letters
  pub lower_over : (w : List ℕ) (v : V) → Lower w v → IsOver (length ideal.weights) w
  lower_over w v h = subst (IsOver (length ideal.weights)) (sym h.word)
      (All-append (λ n. n < length ideal.weights) (h.left ++ h.lead) h.right
      (All-append (λ n. n < length ideal.weights) h.left h.lead h.left_over
      (lead_over ideal st d h.element h.lead h.lower h.is_lead)) h.right_over)

  -- a place and a length at which a lead of lower degree stands
  record StandsAt (w : List ℕ) (below : ℕ) (at : ℕ × ℕ) : Type 0 where
    pub earlier : at.0 < below
    pub minimal : IsMinimal ideal (take at.1 (drop at.0 w))
    pub small : degree_of ideal.weights (take at.1 (drop at.0 w)) < d

  stands_at : (w : List ℕ) (below : ℕ) (at : ℕ × ℕ) → StandsAt w below at ⊎ (StandsAt w below at → ⊥)
  stands_at w below at = elim (cases_lt at.0 below) [
    | inr no_earlier ↦ inr (λ h. omega (arith, no_earlier, h.earlier))
    | inl earlier ↦ elim (cases_lt (degree_of ideal.weights (take at.1 (drop at.0 w))) d) [
      | inr large ↦ inr (λ h. omega (arith, large, h.small))
      | inl small ↦ elim (is_minimal ideal st (take at.1 (drop at.0 w))) [
        | inl m ↦ inl (record { earlier = earlier; minimal = m; small = small })
        | inr other ↦ inr (λ h. other h.minimal)
      ]
    ]
  ]

  abbrev row_of_places : ℕ → ℕ → List (ℕ × ℕ)
  row_of_places size i = map (λ n. (i, n)) (range_with_len 0 (suc size))

  abbrev places : ℕ → List (ℕ × ℕ)
  places size = flat_map (row_of_places size) (range_with_len 0 (suc size))

  place_listed : (size i n : ℕ) → i ≤ size → n ≤ size → Contains (places size) (i, n)
  place_listed size i n li ln = Contains-flat_map (row_of_places size) (range_with_len 0 (suc size)) i (i, n)
      (Contains-range 0 (suc size) i (omega arith) (omega (arith, li)))
      (Contains-map (λ n. (i, n)) (range_with_len 0 (suc size)) n (Contains-range 0 (suc size) n (omega arith) (omega (arith, ln))))

  record HasLeast (w : List ℕ) : Type 0 where
    pub vector : V
    pub product_of : Lower w vector
    pub least : (u : V) (k : Lower w u) → length product_of.left ≤ length k.left

  stands : (w : List ℕ) (below : ℕ) (u : V) (k : Lower w u) → length k.left < below → StandsAt w below (length k.left, length k.lead)
  stands w below u k lt =
      let here = (factor_occurs k.lead w (record { before = k.left; after = k.right; joined = k.word })).same in
      record {
        earlier = lt;
        minimal = subst (IsMinimal ideal) (sym here) (k.lower.reduced.minimal k.lead k.is_lead);
        small = omega (arith, ap (degree_of ideal.weights) here, lower_degree ideal st d k.element k.lead k.lower k.is_lead, k.lower.below);
      }

  -- the product of the lower element whose lead stands there
  record HasProductAt (w : List ℕ) (i : ℕ) : Type 0 where
    pub vector : V
    pub product_of : Lower w vector
    pub early : length product_of.left ≤ i

  product_at : (w : List ℕ) (below : ℕ) (at : ℕ × ℕ) → StandsAt w below at → IsOver (length ideal.weights) w → degree_of ideal.weights w ≡ d
      → HasProductAt w at.0
  product_at w below at s over deg =
      let u = take at.0 w in
      let m = take at.1 (drop at.0 w) in
      let v = drop at.1 (drop at.0 w) in
      let joined : w ≡ u ++ m ++ v = sym (append_assoc u m v ∙ ap (λ (r : List ℕ). u ++ r) (take-append-drop at.1 (drop at.0 w)) ∙ take-append-drop at.0 w) in
      let g = minimal_led ideal st m s.minimal in
      let back = All-drop (λ n. n < length ideal.weights) at.0 w over in
      record {
        vector = vec (product u g.0 v);
        product_of = record {
          element = g.0;
          lower = record { degree = degree_of ideal.weights m; below = s.small; reduced = g.1 };
          lead = m;
          is_lead = g.2;
          left = u;
          right = v;
          left_over = All-take (λ n. n < length ideal.weights) at.0 w over;
          right_over = All-drop (λ n. n < length ideal.weights) at.1 (drop at.0 w) back;
          word = joined;
          degree = sym (degree_of-round ideal.weights u m v) ∙ ap (degree_of ideal.weights) (sym joined) ∙ deg;
          is = refl;
        };
        early = omega (arith, length-take at.0 w);
      }

  -- each word that has a product has one whose lead stands at the least place
  least_below : (n : ℕ) (w : List ℕ) (v : V) (h : Lower w v) → length h.left ≤ n → HasLeast w
  least_below zero w v h le = record { vector = v; product_of = h; least = λ u k. omega (arith, le) }
  least_below (suc n) w v h le = elim (search_list (StandsAt w (length h.left)) (stands_at w (length h.left)) (places (length w))) [
    | none all ↦ record {
      vector = v;
      product_of = h;
      least = λ u k. elim (cases_lt (length k.left) (length h.left)) [
        | inr ge ↦ ge
        | inl lt ↦
            let sizes = ap length k.word ∙ length-append (k.left ++ k.lead) k.right in
            absurd (all (length k.left, length k.lead) (place_listed (length w) (length k.left) (length k.lead)
            (omega (arith, sizes, length-append k.left k.lead)) (omega (arith, sizes, length-append k.left k.lead)))
            (stands w (length h.left) u k lt))
      ];
    }
    | found at m s ↦
        let q = product_at w (length h.left) at s (lower_over w v h) (lower_word ideal st d d w v h) in
        least_below n w q.vector q.product_of (omega (arith, q.early, s.earlier, le))
  ]

  abbrev columns : List (List ℕ)
  columns = words_of_degree ideal.weights d

  in_columns : (w : List ℕ) (v : V) → Lower w v → Contains columns w
  in_columns w v h = subst (λ (n : ℕ). Contains (words_of_degree ideal.weights n) w) (lower_word ideal st d d w v h)
      (listed_word ideal.weights st.are_weights w (lower_over w v h))

  -- v is R less (R less v)
  back_from : (r v : V) (y : List ℕ) → K.add (r y) (K.mul (K.neg K.one) (less ideal st r v y)) ≡ v y
  back_from r v y =
      let minus : (c : Residue ideal.modulus) → K.mul (K.neg K.one) c ≡ K.neg c = λ c. K.mul_comm (K.neg K.one) c ∙ mul_neg K c K.one
      ∙ ap K.neg (K.mul_one c) in
      let part = K.add (r y) (K.neg (v y)) in
      let whole : K.add part (v y) ≡ r y = K.add_assoc (r y) (K.neg (v y)) (v y)
      ∙ ap (K.add (r y)) (K.add_comm (K.neg (v y)) (v y) ∙ K.add_neg (v y)) ∙ K.add_zero (r y) in
      ap (λ (n : Residue ideal.modulus). K.add (r y) (K.mul (K.neg K.one) (K.add (r y) n))) (minus (v y)) ∙ ap (K.add (r y)) (minus part)
      ∙ ap (λ (n : Residue ideal.modulus). K.add n (K.neg part)) (sym whole)
      ∙ ap (λ (n : Residue ideal.modulus). K.add n (K.neg part)) (K.add_comm part (v y)) ∙ K.add_assoc (v y) part (K.neg part)
      ∙ ap (K.add (v y)) (K.add_neg part) ∙ K.add_zero (v y)

  -- each product is a sum of generators, by the words from the least one on
  products_spanned : (xs pre : List (List ℕ)) → columns ≡ pre ++ xs → (w : List ℕ) → Contains xs w → (v : V) → Lower w v → Sp v
  products_spanned [] pre is w m v h = absurd (Contains-none w m)
  products_spanned (x ∷ xs) pre is w m v h =
      let rest = products_spanned xs (pre ++ x ∷ []) (is ∙ sym (append_assoc pre (x ∷ []) xs)) in
      elim (Contains-cases x xs w m) [
        | inr n ↦ rest w n v h
        | inl e ↦
            let r = least_below (length h.left) w v h (omega arith) in
            let falling = subst (AllPairs IsLetterwiseGreater) is (words_of_degree-falling ideal.weights st.are_weights d) in
            let below : (u : V) → IsBelow ideal st d w u → Sp u = λ u b. elim b [
              | row q ↦ IsInSpan-one K (List ℕ) IsGenerator u (obstruction q)
              | smaller y g k ↦ elim (Contains-append_cases pre (x ∷ xs) y (subst (λ (ws : List (List ℕ)). Contains ws y) is (in_columns y u k))) [
                | inl j ↦ absurd (letterwise-apart w w (letterwise-trans w y w g
                    (subst (IsLetterwiseGreater y) e (before_it IsLetterwiseGreater pre x xs falling y j))) refl)
                | inr j ↦ elim (Contains-cases x xs y j) [
                  | inl same ↦ absurd (letterwise-apart w y g (sym e ∙ same))
                  | inr later ↦ rest y later u k
                ]
              ]
            ] in
            let gap = IsInSpan-trans K (List ℕ) (IsBelow ideal st d w) IsGenerator below
            (less ideal st r.vector v) (differ ideal st d w r.vector v r.product_of h (r.least v h)) in
            same_span K (List ℕ) IsGenerator (λ y. K.add (r.vector y) (K.mul (K.neg K.one) (less ideal st r.vector v y))) v (back_from r.vector v)
            (IsInSpan-add K (List ℕ) IsGenerator r.vector (λ y. K.mul (K.neg K.one) (less ideal st r.vector v y))
            (IsInSpan-one K (List ℕ) IsGenerator r.vector (reducer w r.product_of r.least))
            (IsInSpan-scaled K (List ℕ) IsGenerator (K.neg K.one) (less ideal st r.vector v) gap))
      ]

  -- a lower product of degree d is a sum of multiples of reducers, relations and rows of obstructions
  pub product_spanned : (w : List ℕ) (v : V) → Lower w v → Sp v
  product_spanned w v h = products_spanned columns [] refl w (in_columns w v h) v h

  -- words round a member of lower degree
  round_spanned : (e : ℕ) → e < d → (u v : List ℕ) → IsOver (length ideal.weights) u → IsOver (length ideal.weights) v →
      degree_of ideal.weights u + e + degree_of ideal.weights v ≡ d → (f : List Term) → IsInIdeal ideal e f → Sp (vec (product u f v))
  round_spanned e lt u v hu hv deg f i =
      subst Sp (sym (vector_of-product ideal.modulus st.modulus u v f))
      (IsInSpan-trans K (List ℕ) (λ q. (w : List ℕ) × Lower w q) IsGenerator (λ q h. product_spanned h.0 q h.1) (shifted ideal.modulus st.modulus u v (vec f))
      (span_shifted ideal.modulus st.modulus u v (IsLowerAmong ideal st d e (words_of_degree ideal.weights e)) (λ q. (w : List ℕ) × Lower w q)
      (λ g q. (u ++ q.0 ++ v, shift_lower ideal st d e u v q.0 g hu hv deg q.2)) (vec f) (represented ideal st d e lt f i)))

  neighbour_spanned : (g : List Term) → IsNeighbour ideal d g → Sp (vec g)
  neighbour_spanned g (before x f lt le i) = round_spanned (d - weight_of ideal.weights x)
      (omega (arith, le, (weight_of-bounds ideal.weights st.are_weights x).0)) (x ∷ []) []
      (All-cons (λ n. n < length ideal.weights) x [] lt (All-nil (λ n. n < length ideal.weights))) (All-nil (λ n. n < length ideal.weights))
      (omega (arith, le)) f i
  neighbour_spanned g (behind x f lt le i) = round_spanned (d - weight_of ideal.weights x)
      (omega (arith, le, (weight_of-bounds ideal.weights st.are_weights x).0)) [] (x ∷ []) (All-nil (λ n. n < length ideal.weights))
      (All-cons (λ n. n < length ideal.weights) x [] lt (All-nil (λ n. n < length ideal.weights))) (omega (arith, le)) f i
  neighbour_spanned g (relation r among h) = IsInSpan-one K (List ℕ) IsGenerator (vec r) (of_relation r among h refl)

  -- the vector of a member of degree d is a sum of multiples of reducers, relations and rows of obstructions
  pub ideal_spanned : (f : List Term) → IsInIdeal ideal d f → Sp (vec f)
  ideal_spanned f i =
      let s = spanned ideal st d f i in
      IsInSpan-trans K (List ℕ) (λ q. (g : List Term) × IsNeighbour ideal d g × (q ≡ vec g)) IsGenerator
      (λ q h. subst Sp (sym h.2) (neighbour_spanned h.0 h.1)) (vec f)
      (record {
        parts = map (vector_part ideal st d) s.parts;
        each = All-map (λ c. (g : List Term) × IsNeighbour ideal d g × (c.1 ≡ vec g)) (vector_part ideal st d)
            s.parts (λ k c within. (_, (s.each k c within).1, refl));
        sum = λ w. same_vectors ideal.modulus st.modulus f _ s.sum w ∙ vector_of-parts ideal st d s.parts w;
      })
