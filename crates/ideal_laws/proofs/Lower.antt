-- A basis lists the reduced elements of the degrees that are done, and none of its leading words is a factor of
-- another.
use Rattle.std.proofs.Common.{◌≡◌, ◌≢◌, ◌+◌, ◌%◌, ◌==◌, ◌<◌, ℕ, zero, suc, Bool, true, false, cond, List, [], ◌∷◌, ◌++◌, get_or, refl, sym, ap, ◌∙◌}
use Rattle.std.proofs.Common.{inl, inr, arith, eq-eqb, All, subst, Some, bytes_eq}
use Rattle.std.specs.List.{Contains, flat_map, slice_get}
use Rattle.std.proofs.Math.Nat.{mod-eq_of_lt, zero-mod}
use Rattle.std.proofs.lemmas.Bool.{cases_Bool, cases_lt, eqb-true}
use Rattle.std.proofs.lemmas.List.Elements.{All-contains, All-head}
use Rattle.std.proofs.lemmas.Option.{get_or_from_slice_get, same_Some, slice_get_within}
use Rattle.std.proofs.lemmas.Slice.Eq.{bytes_eq-Decides}
use Rattle.words.specs.Words.{AreWeights, degree_of}
use Rattle.words.proofs.Members.{All-from_members, Contains-cases, Contains-first, Contains-more, Contains-none}
use Rattle.words.proofs.Weights.{degree_of-positive}
use Rattle.free_poly.specs.declared.term.Term.{Term}
use Rattle.free_poly.specs.Terms.{HasDegree, HasResidues, product, total_at}
use Rattle.free_poly.specs.Poly.{IsMonic, IsPolynomial, lead_of}
use Rattle.free_poly.proofs.Products.{degree_of-round}
use Rattle.free_poly.proofs.Totals.{letterwise-apart}
use Rattle.ideal_laws.specs.Ideal.{Ideal, IsMultiple, Multiple, ideal_over, terms_of}
use Rattle.ideal_laws.specs.Basis.{IsReduced}
use Rattle.ideal_laws.specs.Closure.{IsFactorFree}
use Rattle.ideal_laws.specs.Engine.{Elements, IsReducedUpto, of_degree}
use Rattle.ideal_laws.specs.Kept.{IsKept, IsKeptElement, StandsBefore, lead_degree}
use Rattle.ideal_laws.specs.Laws.{IsRelation, IsSetting}
use Rattle.ideal_laws.specs.Overlaps.{AreLower, ListsFactorFree, ListsLower}
use Rattle.ideal_laws.proofs.OneBasis.{monic-led, monic_total}

-- a polynomial other than 0 of a list is listed in the degree of its leading word
pub of_degree-has : (weights : List ℕ) (d : ℕ) (fs : List (List Term)) (g : List Term) → Contains fs g → g ≢ [] → lead_degree weights g ≡ d →
    Contains (of_degree weights d fs) g
of_degree-has weights d [] g m other e = absurd (Contains-none g m)
of_degree-has weights d ([] ∷ fs) g m other e = elim (Contains-cases [] fs g m) [
  | inl is ↦ absurd (other (sym is))
  | inr n ↦ of_degree-has weights d fs g n other e
]
of_degree-has weights d ((t ∷ f) ∷ fs) g m other e = elim (Contains-cases (t ∷ f) fs g m) [
  | inl is ↦
      let here : (degree_of weights t.word == d) ≡ true = eq-eqb (degree_of weights t.word) d (ap (lead_degree weights) is ∙ e) in
      subst (λ (b : Bool). Contains (cond b ((t ∷ f) ∷ of_degree weights d fs) (of_degree weights d fs)) g) (sym here)
      (subst (Contains ((t ∷ f) ∷ of_degree weights d fs)) is (Contains-first (t ∷ f) (of_degree weights d fs)))
  | inr n ↦ by_test (degree_of weights t.word == d) (of_degree-has weights d fs g n other e)
]
  where
    by_test : (b : Bool) → Contains (of_degree weights d fs) g → Contains (cond b ((t ∷ f) ∷ of_degree weights d fs) (of_degree weights d fs)) g
    by_test true n = Contains-more (t ∷ f) (of_degree weights d fs) g n
    by_test false n = n

-- what is listed in degree d is in the list, and its leading word has degree d
pub of_degree-says : (weights : List ℕ) (d : ℕ) (fs : List (List Term)) (g : List Term) → Contains (of_degree weights d fs) g →
    Contains fs g × (lead_degree weights g ≡ d)
of_degree-says weights d [] g m = absurd (Contains-none g m)
of_degree-says weights d ([] ∷ fs) g m = let r = of_degree-says weights d fs g m in (Contains-more [] fs g r.0, r.1)
of_degree-says weights d ((t ∷ f) ∷ fs) g m = by_test (degree_of weights t.word == d) refl m (λ n. of_degree-says weights d fs g n)
  where
    by_test : (b : Bool) → (degree_of weights t.word == d) ≡ b → Contains (cond b ((t ∷ f) ∷ of_degree weights d fs) (of_degree weights d fs)) g →
        (Contains (of_degree weights d fs) g → Contains fs g × (lead_degree weights g ≡ d)) → Contains ((t ∷ f) ∷ fs) g × (lead_degree weights g ≡ d)
    by_test true e n rest = elim (Contains-cases (t ∷ f) (of_degree weights d fs) g n) [
      | inl is ↦ (subst (Contains ((t ∷ f) ∷ fs)) is (Contains-first (t ∷ f) fs), ap (lead_degree weights) (sym is) ∙ eqb-true (degree_of weights t.word) d e)
      | inr k ↦ let r = rest k in (Contains-more (t ∷ f) fs g r.0, r.1)
    ]
    by_test false e n rest = let r = rest n in (Contains-more (t ∷ f) fs g r.0, r.1)

-- a product of a relation has a degree of 1 or more
pub positive_product : (weights : List ℕ) → AreWeights weights → (u : List ℕ) (r : List Term) (v : List ℕ) → r ≢ [] →
    All (λ t. t.word ≢ []) r → HasDegree weights 0 (product u r v) → ⊥
positive_product weights aw u [] v other words h = other refl
positive_product weights aw u (t ∷ r) v other words h =
    omega (
      arith,
      All-head (λ (s : Term). degree_of weights s.word ≡ 0) (record { word = u ++ t.word ++ v; coefficient = t.coefficient }) (product u r v) h,
      degree_of-round weights u t.word v,
      degree_of-positive weights aw t.word (All-head (λ (s : Term). s.word ≢ []) t r words),
    )

module _ (ideal : Ideal) (st : IsSetting ideal) where
  -- a list of multiples of relations of degree 0 is empty
  pub none_of_degree_0 : (ms : List Multiple) → All (IsMultiple ideal 0) ms → ms ≡ []
  none_of_degree_0 [] h = refl
  none_of_degree_0 (m ∷ ms) h =
      let i = All-head (IsMultiple ideal 0) m ms h in
      let r = All-contains (IsRelation ideal.modulus ideal.weights) ideal.relations m.relation st.are_relations i.among in
      absurd (positive_product ideal.weights st.are_weights m.left m.relation m.right r.other r.degree i.degree)

  -- degree 0 has no reduced element
  pub no_reduced_0 : (f : List Term) → IsReduced ideal 0 f → ⊥
  no_reduced_0 f h =
      let w = monic-led f h.monic in
      let one = monic_total f w.0 w.1 h.inside.element.form h.monic in
      let sum = h.inside.sum w.0 ∙ ap (λ (ms : List Multiple). total_at (flat_map terms_of ms) w.0 % ideal.modulus)
      (none_of_degree_0 h.inside.multiples h.inside.each) in
      omega (
        arith,
        ap (λ (n : ℕ). n % ideal.modulus) one,
        sum,
        mod-eq_of_lt {n = 1} {m = ideal.modulus} (omega (arith, st.modulus.two_or_more)),
        zero-mod
            ideal.modulus,
      )

lead_degree-led : (weights : List ℕ) (f : List Term) (w : List ℕ) → lead_of f ≡ Some w → lead_degree weights f ≡ degree_of weights w
lead_degree-led weights [] w e = cc e
lead_degree-led weights (t ∷ f) w e = let is : t.word ≡ w = cc e in ap (degree_of weights) is

-- an element does not stand before one with the same leading word
strict : (weights : List ℕ) (g h : List Term) (w : List ℕ) → lead_of g ≡ Some w → lead_of h ≡ Some w → StandsBefore weights g h → ⊥
strict weights g h w lg lh (inl lower) = omega (arith, lower, lead_degree-led weights g w lg, lead_degree-led weights h w lh)
strict weights g h w lg lh (inr equal) =
    letterwise-apart equal.1.of_f equal.1.of_g equal.1.greater (same_Some equal.1.of_f equal.1.of_g (sym equal.1.leads_f ∙ lg ∙ sym lh ∙ equal.1.leads_g))

module _ (p : ℕ) (relations : List (List Term)) (below : Elements) (st : IsSetting (ideal_over p below.weights relations)) (kept : IsKept below)
    (upto : IsReducedUpto p relations below) where
  listed : (g : List Term) → Contains below.elements g → (e : ℕ) × (e < below.done + 1) × IsReduced (ideal_over p below.weights relations) e g
  listed g m =
      let k = All-contains (IsKeptElement below.weights below.done) below.elements g kept.each m in
      let d = lead_degree below.weights g in (
        d,
        omega (arith, k.upto),
        ((upto d k.from k.upto).exactly g).0
            (of_degree-has below.weights d below.elements g m (λ none. subst IsMonic none k.monic) refl),
      )

  has : (g : List Term) (e : ℕ) → e < below.done + 1 → IsReduced (ideal_over p below.weights relations) e g → Contains below.elements g
  has g zero lt h = absurd (no_reduced_0 (ideal_over p below.weights relations) st g h)
  has g (suc e) lt h = (of_degree-says below.weights (suc e) below.elements g (((upto (suc e) (omega arith) (omega (arith, lt))).exactly g).1 h)).0

  lower : AreLower (ideal_over p below.weights relations) (below.done + 1) below.elements
  lower g = (listed g, λ h. has g h.0 h.1 h.2)

  in_list : (i : ℕ) (g : List Term) → slice_get below.elements i ≡ Some g → Contains below.elements g
  in_list i g e = (i, slice_get_within below.elements i g e, get_or_from_slice_get below.elements i g g e)

  not_before : (i j : ℕ) (g h : List Term) (w : List ℕ) → slice_get below.elements i ≡ Some g → slice_get below.elements j ≡ Some h →
      lead_of g ≡ Some w → lead_of h ≡ Some w → i < j → ⊥
  not_before i j g h w eg eh lg lh lt =
      let order = kept.ordered i j [] lt (slice_get_within below.elements j h eh) in
      strict below.weights g h w lg lh
      (subst (λ (f : List Term). StandsBefore below.weights f h) (get_or_from_slice_get below.elements i g [] eg)
      (subst (StandsBefore below.weights (get_or below.elements i [])) (get_or_from_slice_get below.elements j h [] eh) order))

  factor_free : IsFactorFree below.elements
  factor_free i j g h v w eg eh lg lh factor =
      let rg = (listed g (in_list i g eg)).2 in
      let rh = (listed h (in_list j h eh)).2 in
      elim (cases_Bool (bytes_eq v w)) [
        | inr other ↦ absurd ((rh.minimal w lh).none_inside v (record { inside = factor; other = apart other }) (rg.minimal v lg).leading)
        | inl found ↦
            let is : v ≡ w = (bytes_eq-Decides v w).0 found in
            let led : lead_of g ≡ Some w = lg ∙ ap Some is in
            elim (cases_lt i j) [
              | inl lt ↦ absurd (not_before i j g h w eg eh led lh lt)
              | inr from ↦ elim (cases_lt j i) [
                | inl lt ↦ absurd (not_before j i h g w eh eg lh led lt)
                | inr le ↦ omega (arith, from, le)
              ]
            ]
      ]
    where
      apart : bytes_eq v w ≡ false → v ≢ w
      apart f e = let t : bytes_eq v w ≡ true = (bytes_eq-Decides v w).1 e in cc

-- a basis with the reduced basis of each degree below d lists exactly the reduced elements of these degrees
pub lists_lower : ListsLower
lists_lower ideal st d below h =
    let own = subst (λ (ws : List ℕ). IsSetting (record ideal { weights = ws })) (sym h.same_weights) st in
    subst (λ (n : ℕ). AreLower ideal n below.elements) h.next
    (subst (λ (ws : List ℕ). AreLower (record ideal { weights = ws }) (below.done + 1) below.elements) h.same_weights
    (lower ideal.modulus ideal.relations below own h.kept h.reduced))

-- in a basis with the reduced basis of each degree below d no leading word is a factor of another
pub lists_factor_free : ListsFactorFree
lists_factor_free ideal st d below h =
    factor_free ideal.modulus ideal.relations below (subst (λ (ws : List ℕ). IsSetting (record ideal { weights = ws })) (sym h.same_weights) st) h.kept
    h.reduced

-- a list of exactly the reduced elements of degrees below d
module _ (ideal : Ideal) (d : ℕ) (G : List (List Term)) (lower : AreLower ideal d G) where
  -- its elements are polynomials
  pub lower_forms : All IsPolynomial G
  lower_forms = All-from_members IsPolynomial G (λ g m. ((lower g).0 m).2.inside.element.form)

  -- all coefficients of its elements are residues
  pub lower_residues : All (HasResidues ideal.modulus) G
  lower_residues = All-from_members (HasResidues ideal.modulus) G (λ g m. ((lower g).0 m).2.inside.element.residues)
