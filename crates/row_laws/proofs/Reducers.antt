-- Reducers over the reduced elements of lower degrees: one at most for each word. Each is a product of an element, so it
-- is in the ideal, 1 at its word and 0 at greater words.
use Rattle.std.proofs.Common.{◌≡◌, ◌+◌, ◌<◌, ℕ, List, [], ◌∷◌, length, take, drop, sym, ap, ◌∙◌, inl, inr, arith}
use Rattle.std.proofs.Common.{subst, Some, bytes_eq}
use Rattle.std.specs.List.{Contains}
use Rattle.std.proofs.lemmas.Bool.{cases_Bool, cases_lt}
use Rattle.std.proofs.lemmas.List.Elements.{All-drop, All-head, All-take}
use Rattle.std.proofs.lemmas.Slice.Eq.{bytes_eq-Decides}
use Rattle.words.specs.Words.{IsFactor, IsOver, degree_of}
use Rattle.words.specs.Order.{IsLetterwiseGreater}
use Rattle.free_poly.specs.declared.term.Term.{Term}
use Rattle.free_poly.specs.Terms.{product}
use Rattle.free_poly.specs.Poly.{lead_of}
use Rattle.free_poly.proofs.Products.{degree_of-round}
use Rattle.free_poly.proofs.Totals.{not_equal}
use Rattle.linear_algebra.specs.Fields.{Field}
use Rattle.linear_algebra.specs.Mod.{Residue}
use Rattle.ideal_laws.specs.Ideal.{Ideal, IsInIdeal, IsMinimal}
use Rattle.ideal_laws.specs.Basis.{IsReduced}
use Rattle.ideal_laws.specs.Closure.{IsReducer}
use Rattle.ideal_laws.specs.Laws.{IsSetting}
use Rattle.ideal_laws.specs.Overlaps.{AreLower}
use Rattle.ideal_laws.proofs.Represented.{IsLowerProduct, lower_above, lower_inside, lower_one}
use Rattle.ideal_laws.proofs.Vectors as vectors
use Rattle.row_laws.proofs.Places.{joined_at}
use Rattle.std.proofs.lemmas.Option.{same_Some}
use Rattle.ideal_laws.proofs.Differ.{reduced_one}
use Rattle.ideal_laws.proofs.OneQuantity.{first_of}

module _ (ideal : Ideal) (st : IsSetting ideal) where
  -- the leading word of a reduced element of degree n has degree n
  pub lead_degree : (n : ℕ) (f : List Term) (w : List ℕ) → IsReduced ideal n f → lead_of f ≡ Some w → degree_of ideal.weights w ≡ n
  lead_degree n [] w r e = cc e
  lead_degree n (t ∷ f) w r e = let is : t.word ≡ w = cc e in ap (degree_of ideal.weights) (sym is)
      ∙ All-head (λ s. degree_of ideal.weights s.word ≡ n) t f r.inside.element.degree

  -- a minimal word that is a factor of another is the other
  minimal_one : (v w : List ℕ) → IsMinimal ideal v → IsMinimal ideal w → IsFactor v w → v ≡ w
  minimal_one v w hv hw i = elim (cases_Bool (bytes_eq v w)) [
    | inl is ↦ (bytes_eq-Decides v w).0 is
    | inr other ↦ absurd (hw.none_inside v (record { inside = i; other = not_equal v w other }) hv.leading)
  ]

  module _ (d : ℕ) (G : List (List Term)) (lower : AreLower ideal d G) where
    -- elements whose leading words stand at one place are one
    element_one : (g h : List Term) (v w r : List ℕ) → Contains G g → Contains G h → lead_of g ≡ Some v → lead_of h ≡ Some w →
        take (length v) r ≡ v → take (length w) r ≡ w → g ≡ h
    element_one g h v w r m n lg lh ev ew =
        let a = (lower g).0 m in
        let b = (lower h).0 n in
        let same : v ≡ w = elim (cases_lt (length w) (length v)) [
          | inl longer ↦ sym (minimal_one w v (b.2.minimal w lh) (a.2.minimal v lg) (first_of w v r ew ev (omega (arith, longer))))
          | inr le ↦ minimal_one v w (a.2.minimal v lg) (b.2.minimal w lh) (first_of v w r ev ew le)
        ] in
        let degree : b.0 ≡ a.0 = sym (lead_degree b.0 h w b.2 lh) ∙ ap (degree_of ideal.weights) (sym same) ∙ lead_degree a.0 g v a.2 lg in
        reduced_one ideal st a.0 g h v a.2 (subst (λ (e : ℕ). IsReduced ideal e h) degree b.2) lg (lh ∙ ap Some (sym same))

    -- a word has at most one reducer
    pub reducer_one : (w : List ℕ) (f g : List Term) → IsReducer G w f → IsReducer G w g → f ≡ g
    reducer_one w f g a b =
        let at : a.at ≡ b.at = omega (arith, a.least b.element b.lead b.at b.among b.is_lead b.here, b.least a.element a.lead a.at a.among a.is_lead a.here) in
        let moved : take (length b.lead) (drop a.at w) ≡ b.lead = ap (λ (n : ℕ). take (length b.lead) (drop n w)) at ∙ b.here.same in
        let element : a.element ≡ b.element = element_one a.element b.element a.lead b.lead (drop a.at w) a.among b.among a.is_lead
        b.is_lead a.here.same moved in
        let lead : a.lead ≡ b.lead = same_Some a.lead b.lead (sym a.is_lead ∙ ap lead_of element ∙ b.is_lead) in
        a.is ∙ (λ i. product (take (at i) w) (element i) (drop (at i + length (lead i)) w)) ∙ sym b.is

    abbrev K : Field
    K = vectors.K ideal.modulus st.modulus

    -- the reducer of a word of the degree is a product of a lower element, so it is 1 there and 0 at greater words
    module _ (w : List ℕ) (f : List Term) (over : IsOver (length ideal.weights) w) (deg : degree_of ideal.weights w ≡ d) (r : IsReducer G w f) where
      abbrev vector : List ℕ → Residue ideal.modulus
      vector = vectors.vector_of ideal.modulus st.modulus f

      abbrev lower_product : IsLowerProduct ideal st d d w vector
      lower_product =
          let u = take r.at w in
          let v = drop (r.at + length r.lead) w in
          let h = (lower r.element).0 r.among in
          record {
            element = r.element;
            lower = record { degree = h.0; below = h.1; reduced = h.2 };
            lead = r.lead;
            is_lead = r.is_lead;
            left = u;
            right = v;
            left_over = All-take (λ n. n < length ideal.weights) r.at w over;
            right_over = All-drop (λ n. n < length ideal.weights) (r.at + length r.lead) w over;
            word = joined_at r.lead w r.at r.here;
            degree = ap (λ (n : ℕ). degree_of ideal.weights u + n + degree_of ideal.weights v) (sym (lead_degree h.0 r.element r.lead h.2 r.is_lead))
                ∙ sym (degree_of-round ideal.weights u r.lead v) ∙ ap (degree_of ideal.weights) (sym (joined_at r.lead w r.at r.here)) ∙ deg;
            is = ap (vectors.vector_of ideal.modulus st.modulus) r.is;
          }

      -- the reducer is in the ideal, in degree d
      pub reducer_inside : IsInIdeal ideal d f
      reducer_inside = subst (IsInIdeal ideal d) (sym r.is) (lower_inside ideal st d d w vector lower_product)

      -- its coefficient at the word is 1
      pub reducer_there : vector w ≡ K.one
      reducer_there = lower_one ideal st d d w vector lower_product

      -- its coefficient at each greater word is 0
      pub reducer_above : (y : List ℕ) → IsLetterwiseGreater y w → vector y ≡ K.zero
      reducer_above y g = lower_above ideal st d d w y vector lower_product g
