-- Exactly one number is the dimension of a degree: that of its leading words.
use Rattle.std.proofs.Common.{ap₂, ◌≡◌, ◌≢◌, ◌⊎◌, ◌+◌, ◌<◌, ◌==◌, ℕ, suc, true, false, List, [], ◌∷◌, map, length, get_or, refl, sym, ap, ◌∙◌, inl}
use Rattle.std.proofs.Common.{inr, arith, All, AllPairs, subst}
use Rattle.std.specs.List.{Contains}
use Rattle.std.proofs.Math.Nat.{mod-eq_of_lt, zero-mod}
use Rattle.std.proofs.lemmas.Bool.{cases_lt}
use Rattle.std.proofs.lemmas.List.{length-map}
use Rattle.std.proofs.lemmas.List.Elements.{All-cons, All-head, All-map, All-nil, All-tail}
use Rattle.words.specs.Words.{words_of_degree}
use Rattle.words.specs.Order.{IsLetterwiseGreater}
use Rattle.words.proofs.Degrees.{words_of_degree-falling}
use Rattle.words.proofs.Members.{AllPairs-map, All-from_members, Contains-cases, Contains-first, Contains-map_cases, Contains-more, Contains-none}
use Rattle.field_table.specs.Residues.{IsFieldModulus}
use Rattle.free_poly.specs.declared.term.Term.{Term}
use Rattle.free_poly.specs.Terms.{IsSame, scaled}
use Rattle.free_poly.proofs.FromWords.{listed}
use Rattle.free_poly.proofs.NormalForms.{letterwise-trans}
use Rattle.free_poly.proofs.Totals.{letterwise-apart}
use Rattle.linear_algebra.specs.Fields.{Field}
use Rattle.linear_algebra.specs.Spans.{sum_of}
use Rattle.linear_algebra.specs.Echelon.{AreSameAt, IsReduced, IsZeroAtLeads, done, skip, lead, from_leads}
use Rattle.linear_algebra.specs.Mod.{Residue}
use Rattle.linear_algebra.proofs.Algebra.{add_swap, mul_zero_add, zero_mul_add, IsInSpan-add, IsInSpan-scaled, IsInSpan-zero}
use Rattle.linear_algebra.proofs.Dependent.{HasNonzero, IsZeroOn, dependent, sum_zip}
use Rattle.linear_algebra.proofs.ModField.{same_residue}
use Rattle.ideal_laws.specs.Ideal.{Ideal, IsInIdeal, IsLeadingWord}
use Rattle.ideal_laws.specs.Dimension.{AreFactors, IsDimension, IsIndependent, combination}
use Rattle.ideal_laws.specs.Laws.{HasDimension, HasOneDimension, IsSetting}
use Rattle.ideal_laws.proofs.Leads.{element_from, element_inside, found, had_from_rows, is_leading, leading_listed, leading_words, listed_leading}
use Rattle.ideal_laws.proofs.Leads.{IsMemberVector, member_off, row_member, rows, vector_of_element, zero_at_member}
use Rattle.ideal_laws.proofs.OneBasis.{lead_in_columns, leads_falling}
use Rattle.ideal_laws.proofs.Search.{AllPairs-kept, in_kept, kept, kept_if, kept-says, same_lists}
use Rattle.ideal_laws.proofs.Vectors.{same_vectors, span_from_ideal, vector_of-append, vector_of-scaled}
use Rattle.ideal_laws.proofs.Vectors as vectors

module _ (p : ℕ) (fm : IsFieldModulus p) where
  abbrev K : Field
  K = vectors.K p fm

  abbrev V : Type 0
  V = List ℕ → Residue p

  abbrev of : ℕ → Residue p
  of n = vectors.of p fm n

  -- the sum of c * row
  abbrev mix : List ℕ → List (List ℕ × V) → V
  mix [] es y = K.zero
  mix (c ∷ cs) [] y = K.zero
  mix (c ∷ cs) (e ∷ es) y = K.add (K.mul (of c) (e.1 y)) (mix cs es y)

  mix-zero : (cs : List ℕ) (es : List (List ℕ × V)) (y : List ℕ) → ((e : List ℕ × V) → Contains es e → e.1 y ≡ K.zero) → mix cs es y ≡ K.zero
  mix-zero [] es y h = refl
  mix-zero (c ∷ cs) [] y h = refl
  mix-zero (c ∷ cs) (e ∷ es) y h =
      ap (λ (n : Residue p). K.add (K.mul (of c) n) (mix cs es y)) (h e (Contains-first e es)) ∙ mul_zero_add K (of c) _
      ∙ mix-zero cs es y (λ d m. h d (Contains-more e es d m))

  zero_number : (c : ℕ) → c < p → of c ≡ K.zero → c ≡ 0
  zero_number c lt e = sym (mod-eq_of_lt lt) ∙ ap (λ (n : Residue p). n.0) e ∙ zero-mod p

  -- rows are independent, by their entries at the leading columns
  rows_independent : (xs : List (List ℕ)) (es : List (List ℕ × V)) → IsReduced K (List ℕ) xs es → (cs : List ℕ) → length cs ≡ length es → All (λ c. c < p) cs
      → ((e : List ℕ × V) → Contains es e → mix cs es e.0 ≡ K.zero) → All (λ c. c ≡ 0) cs
  rows_independent xs es done [] n small h = All-nil (λ c. c ≡ 0)
  rows_independent xs es done (c ∷ cs) n small h = absurd (omega (arith, n))
  rows_independent xs es (skip x ys es' z r) cs n small h = rows_independent ys es r cs n small h
  rows_independent xs es (lead x ys v es' one z zl r) [] n small h = absurd (omega (arith, n))
  rows_independent xs es (lead x ys v es' one z zl r) (c ∷ cs) n small h =
      let here : of c ≡ K.zero =
      sym (ap₂ K.add (ap (K.mul (of c)) one ∙ K.mul_one (of c)) (mix-zero cs es' x (λ e m. zero_at_member p fm x es' e z m)) ∙ K.add_zero (of c))
      ∙ h (x, v) (Contains-first (x, v) es') in
      All-cons (λ c. c ≡ 0) c cs (zero_number c (All-head (λ c. c < p) c cs small) here)
      (rows_independent ys es' r cs (omega (arith, n)) (All-tail (λ c. c < p) c cs small) (λ e m.
      sym (ap (λ (n : Residue p). K.add (K.mul n (v e.0)) (mix cs es' e.0)) here ∙ zero_mul_add K (v e.0) _) ∙ h e (Contains-more (x, v) es' e m)))

  abbrev reading : List ℕ × V → V → Residue p
  reading e v = v e.0

  readings-zero : (bs : List (Residue p)) (es : List (List ℕ × V)) (v : V) → IsZeroAtLeads K (List ℕ) v es → sum_zip K V bs (map reading es) v ≡ K.zero
  readings-zero [] es v z = refl
  readings-zero (a ∷ bs) [] v z = refl
  readings-zero (a ∷ bs) (e ∷ es) v z = ap (λ (n : Residue p). K.add (K.mul a n) (sum_zip K V bs (map reading es) v)) z.0
      ∙ mul_zero_add K a _ ∙ readings-zero bs es v z.1

  zero_is_zero : (a : Residue p) → K.is_zero a ≡ false → a ≡ K.zero → ⊥
  zero_is_zero a f e = let t : K.is_zero a ≡ true = ap K.is_zero e ∙ K.zero_test in cc

  -- no sum of readings but the one by zeros is 0 on all rows
  readings_independent : (xs : List (List ℕ)) (es : List (List ℕ × V)) → IsReduced K (List ℕ) xs es → (bs : List (Residue p)) → length bs ≡ length es
      → ((e : List ℕ × V) → Contains es e → sum_zip K V bs (map reading es) e.1 ≡ K.zero) → HasNonzero K V bs → ⊥
  readings_independent xs es done [] n h some = some
  readings_independent xs es done (a ∷ bs) n h some = omega (arith, n)
  readings_independent xs es (skip x ys es' z r) bs n h some = readings_independent ys es r bs n h some
  readings_independent xs es (lead x ys v es' one z zl r) [] n h some = some
  readings_independent xs es (lead x ys v es' one z zl r) (a ∷ bs) n h some =
      let here : a ≡ K.zero = sym (ap₂ K.add (ap (K.mul a) one ∙ K.mul_one a) (readings-zero bs es' v zl) ∙ K.add_zero a)
      ∙ h (x, v) (Contains-first (x, v) es') in
      elim some [
        | inl f ↦ zero_is_zero a f here
        | inr later ↦ readings_independent ys es' r bs (omega (arith, n)) (λ e m.
            sym (ap (λ (n : Residue p). K.add (K.mul n (e.1 x)) (sum_zip K V bs (map reading es') e.1)) here ∙ zero_mul_add K (e.1 x) _)
            ∙ h e (Contains-more (x, v) es' e m)) later
      ]

  readings-same : (bs : List (Residue p)) (es : List (List ℕ × V)) (u v : V) → ((y : List ℕ) → u y ≡ v y) →
      sum_zip K V bs (map reading es) u ≡ sum_zip K V bs (map reading es) v
  readings-same [] es u v h = refl
  readings-same (a ∷ bs) [] u v h = refl
  readings-same (a ∷ bs) (e ∷ es) u v h = λ i. K.add (K.mul a (h e.0 i)) (readings-same bs es u v h i)

  readings-linear : (bs : List (Residue p)) (es : List (List ℕ × V)) (c : Residue p) (u v : V)
      → sum_zip K V bs (map reading es) (λ y. K.add (K.mul c (u y)) (v y))
      ≡ K.add (K.mul c (sum_zip K V bs (map reading es) u)) (sum_zip K V bs (map reading es) v)
  readings-linear [] es c u v = sym (mul_zero_add K c K.zero)
  readings-linear (a ∷ bs) [] c u v = sym (mul_zero_add K c K.zero)
  readings-linear (a ∷ bs) (e ∷ es) c u v =
      let first : K.mul a (K.add (K.mul c (u e.0)) (v e.0)) ≡ K.add (K.mul c (K.mul a (u e.0))) (K.mul a (v e.0)) =
      K.mul_add a (K.mul c (u e.0)) (v e.0) ∙ ap (λ (n : Residue p). K.add n (K.mul a (v e.0)))
      (sym (K.mul_assoc a c (u e.0)) ∙ ap (λ (n : Residue p). K.mul n (u e.0)) (K.mul_comm a c) ∙ K.mul_assoc c a (u e.0)) in
      let su = sum_zip K V bs (map reading es) u in
      let sv = sum_zip K V bs (map reading es) v in
      ap₂ K.add first (readings-linear bs es c u v) ∙ add_swap K (K.mul c (K.mul a (u e.0))) (K.mul a (v e.0)) (K.mul c su) sv
      ∙ ap (λ (n : Residue p). K.add n (K.add (K.mul a (v e.0)) sv)) (sym (K.mul_add c (K.mul a (u e.0)) su))

  -- the vector of a combination
  combination-first : (c : ℕ) (cs : List ℕ) (f : List Term) (fs : List (List Term)) (y : List ℕ)
      → vectors.vector_of p fm (combination (c ∷ cs) (f ∷ fs)) y ≡ K.add (K.mul (of c) (vectors.vector_of p fm f y))
      (vectors.vector_of p fm (combination cs fs) y)
  combination-first c cs f fs y = vector_of-append p fm (scaled c f) (combination cs fs) y
      ∙ ap (λ (n : Residue p). K.add n (vectors.vector_of p fm (combination cs fs) y)) (vector_of-scaled p fm c f y)

  readings-combination : (bs : List (Residue p)) (es : List (List ℕ × V)) (cs : List ℕ) (fs : List (List Term)) →
      IsZeroOn K V (map (vectors.vector_of p fm) fs) (sum_zip K V bs (map reading es))
      → sum_zip K V bs (map reading es) (vectors.vector_of p fm (combination cs fs)) ≡ K.zero
  readings-combination bs es [] fs z = readings-same bs es _ (λ y. K.zero) (λ y. same_residue p _ _ refl) ∙ readings-zero bs es (λ y. K.zero) (zeros es)
    where
      zeros : (es : List (List ℕ × V)) → IsZeroAtLeads K (List ℕ) (λ y. K.zero) es
      zeros [] = tt
      zeros (e ∷ es) = (refl, zeros es)
  readings-combination bs es (c ∷ cs) [] z = readings-same bs es _ (λ y. K.zero) (λ y. same_residue p _ _ refl) ∙ readings-zero bs es (λ y. K.zero) (zeros es)
    where
      zeros : (es : List (List ℕ × V)) → IsZeroAtLeads K (List ℕ) (λ y. K.zero) es
      zeros [] = tt
      zeros (e ∷ es) = (refl, zeros es)
  readings-combination bs es (c ∷ cs) (f ∷ fs) z =
      readings-same bs es _ _ (combination-first c cs f fs) ∙ readings-linear bs es (of c) (vectors.vector_of p fm f)
      (vectors.vector_of p fm (combination cs fs))
      ∙ ap₂ (λ (m n : Residue p). K.add (K.mul (of c) m) n) z.0 (readings-combination bs es cs fs z.1) ∙ mul_zero_add K (of c) K.zero

module _ (ideal : Ideal) (st : IsSetting ideal) (d : ℕ) where
  abbrev fmd : IsFieldModulus ideal.modulus
  fmd = st.modulus

  abbrev Kd : Field
  Kd = vectors.K ideal.modulus fmd

  abbrev Vd : Type 0
  Vd = List ℕ → Residue ideal.modulus

  abbrev es : List (List ℕ × Vd)
  es = rows ideal fmd st d

  abbrev element_of : List ℕ × Vd → List Term
  element_of e = element_from ideal fmd st d e.1

  abbrev members : List (List Term)
  members = map element_of es

  abbrev columns : List (List ℕ)
  columns = words_of_degree ideal.weights d

  reduced : IsReduced Kd (List ℕ) columns es
  reduced = (found ideal fmd st d).1.reduced

  vector_of_combination : (cs : List ℕ) (fs : List (List ℕ × Vd)) → ((e : List ℕ × Vd) → Contains fs e → Contains es e) → (y : List ℕ) →
      vectors.vector_of ideal.modulus fmd (combination cs (map element_of fs)) y ≡ mix ideal.modulus fmd cs fs y
  vector_of_combination [] fs h y = same_residue ideal.modulus _ _ refl
  vector_of_combination (c ∷ cs) [] h y = same_residue ideal.modulus _ _ refl
  vector_of_combination (c ∷ cs) (e ∷ fs) h y =
      combination-first ideal.modulus fmd c cs (element_of e) (map element_of fs) y
      ∙ ap₂ (λ (m n : Residue ideal.modulus). Kd.add (Kd.mul (vectors.of ideal.modulus fmd c) m) n)
      (vector_of_element ideal fmd st d e.1 (row_member ideal fmd st d e (h e (Contains-first e fs))) y)
      (vector_of_combination cs fs (λ g m. h g (Contains-more e fs g m)) y)

  independent : IsIndependent ideal.modulus members
  independent cs fac none =
      rows_independent ideal.modulus fmd columns es reduced cs (fac.count ∙ length-map es element_of) fac.residues
      (λ e m. sym (vector_of_combination cs es (λ g n. n) e.0) ∙ same_vectors ideal.modulus fmd (combination cs members) [] none e.0
      ∙ same_residue ideal.modulus _ _ refl)

  -- the entries of a member at the leading columns
  abbrev factors_of : Vd → List (List ℕ × Vd) → List ℕ
  factors_of v fs = map (λ (e : List ℕ × Vd). (v e.0).0) fs

  mix-factors : (v : Vd) (fs : List (List ℕ × Vd)) (y : List ℕ) → mix ideal.modulus fmd (factors_of v fs) fs y ≡ sum_of Kd (List ℕ)
      (from_leads Kd (List ℕ) fs v) y
  mix-factors v [] y = refl
  mix-factors v (e ∷ fs) y = ap₂ (λ (m n : Residue ideal.modulus). Kd.add (Kd.mul m (e.1 y)) n)
      (same_residue ideal.modulus (vectors.of ideal.modulus fmd (v e.0).0) (v e.0) (mod-eq_of_lt (v e.0).1)) (mix-factors v fs y)

  same_at : (xs : List (List ℕ)) (u v : Vd) → AreSameAt Kd (List ℕ) xs u v → (w : List ℕ) → Contains xs w → u w ≡ v w
  same_at [] u v s w m = absurd (Contains-none w m)
  same_at (x ∷ xs) u v s w m = elim (Contains-cases x xs w m) [
    | inl is ↦ subst (λ (y : List ℕ). u y ≡ v y) is s.0
    | inr n ↦ same_at xs u v s.1 w n
  ]

  mixed : (v : Vd) → IsMemberVector ideal fmd st d v → (w : List ℕ) → v w ≡ mix ideal.modulus fmd (factors_of v es) es w
  mixed v s w = elim (listed columns w) [
    | inl m ↦ same_at columns v _ (had_from_rows ideal fmd st d v s) w m ∙ sym (mix-factors v es w)
    | inr off ↦ member_off ideal fmd st d v s w off
        ∙ sym (mix-zero ideal.modulus fmd (factors_of v es) es w (λ e m. member_off ideal fmd st d e.1 (row_member ideal fmd st d e m) w off))
  ]

  spanning : (f : List Term) → IsInIdeal ideal d f → (cs : List ℕ) × AreFactors ideal.modulus cs members × IsSame ideal.modulus f (combination cs members)
  spanning f i =
      let v = vectors.vector_of ideal.modulus fmd f in (
        factors_of v es,
        record {
          count = length-map es (λ (e : List ℕ × Vd). (v e.0).0) ∙ sym (length-map es element_of);
          residues = All-map (λ c. c < ideal.modulus) (λ (e : List ℕ × Vd). (v e.0).0) es (λ k e within. (v (get_or es k e).0).1);
        },
        λ w. ap (λ (n : Residue ideal.modulus). n.0) (mixed v (span_from_ideal ideal fmd d f i) w
            ∙ sym (vector_of_combination (factors_of v es) es (λ g n. n) w)),
      )

  -- the number of the leading words of a degree is a dimension of it
  pub has_dimension : IsDimension ideal d (length (leading_words ideal fmd st d))
  has_dimension = record {
    members = members;
    count = length-map es element_of ∙ sym (length-map es (λ (e : List ℕ × Vd). e.0));
    inside = All-from_members (IsInIdeal ideal d) members (λ f m.
        let c = Contains-map_cases element_of es f m in
        subst (IsInIdeal ideal d) c.2 (element_inside ideal fmd st d c.0.1 (row_member ideal fmd st d c.0 c.1)));
    independent = independent;
    spanning = spanning;
  }

  -- sums of multiples of members are members
  sum_member : (cs : List (Residue ideal.modulus)) (fs : List (List Term)) → All (IsInIdeal ideal d) fs →
      IsMemberVector ideal fmd st d (sum_zip Kd (List ℕ) cs (map (vectors.vector_of ideal.modulus fmd) fs))
  sum_member [] fs h = IsInSpan-zero Kd (List ℕ) _
  sum_member (c ∷ cs) [] h = IsInSpan-zero Kd (List ℕ) _
  sum_member (c ∷ cs) (f ∷ fs) h =
      IsInSpan-add Kd (List ℕ) _ _ _ (IsInSpan-scaled Kd (List ℕ) _ c (vectors.vector_of ideal.modulus fmd f)
      (span_from_ideal ideal fmd d f (All-head (IsInIdeal ideal d) f fs h)))
      (sum_member cs fs (All-tail (IsInIdeal ideal d) f fs h))

  abbrev numbers : List (Residue ideal.modulus) → List ℕ
  numbers cs = map (λ (c : Residue ideal.modulus). c.0) cs

  vector_of_numbers : (cs : List (Residue ideal.modulus)) (fs : List (List Term)) (y : List ℕ) →
      vectors.vector_of ideal.modulus fmd (combination (numbers cs) fs) y ≡ sum_zip Kd (List ℕ) cs (map (vectors.vector_of ideal.modulus fmd) fs) y
  vector_of_numbers [] fs y = same_residue ideal.modulus _ _ refl
  vector_of_numbers (c ∷ cs) [] y = same_residue ideal.modulus _ _ refl
  vector_of_numbers (c ∷ cs) (f ∷ fs) y =
      combination-first ideal.modulus fmd c.0 (numbers cs) f fs y ∙ ap₂ (λ (m n : Residue ideal.modulus). Kd.add
      (Kd.mul m (vectors.vector_of ideal.modulus fmd f y)) n)
      (same_residue ideal.modulus (vectors.of ideal.modulus fmd c.0) c (mod-eq_of_lt c.1)) (vector_of_numbers cs fs y)

  all_zero : (cs : List (Residue ideal.modulus)) → HasNonzero Kd (List ℕ) cs → All (λ c. c ≡ 0) (numbers cs) → ⊥
  all_zero [] some h = some
  all_zero (c ∷ cs) (inl f) h = let t : (c.0 == 0) ≡ true = ap (λ (n : ℕ). n == 0) (All-head (λ c. c ≡ 0) c.0 (numbers cs) h) in cc
  all_zero (c ∷ cs) (inr later) h = all_zero cs later (All-tail (λ c. c ≡ 0) c.0 (numbers cs) h)

  zero_leads : (v : Vd) (fs : List (List ℕ × Vd)) → IsZeroOn Kd (List ℕ) (map (λ (e : List ℕ × Vd). e.0) fs) v → (y : List ℕ) →
      sum_of Kd (List ℕ) (from_leads Kd (List ℕ) fs v) y ≡ Kd.zero
  zero_leads v [] z y = refl
  zero_leads v (e ∷ fs) z y = ap (λ (n : Residue ideal.modulus). Kd.add (Kd.mul n (e.1 y)) (sum_of Kd (List ℕ) (from_leads Kd (List ℕ) fs v) y)) z.0
      ∙ zero_mul_add Kd (e.1 y) _ ∙ zero_leads v fs z.1 y

  -- no more independent members than leading words
  at_most : (fs : List (List Term)) → All (IsInIdeal ideal d) fs → IsIndependent ideal.modulus fs →
      length (leading_words ideal fmd st d) < length fs → ⊥
  at_most fs inside ind more =
      let dep = dependent Kd (List ℕ) (leading_words ideal fmd st d) (map (vectors.vector_of ideal.modulus fmd) fs)
      (omega (arith, more, length-map fs (vectors.vector_of ideal.modulus fmd))) in
      let v = sum_zip Kd (List ℕ) dep.factors (map (vectors.vector_of ideal.modulus fmd) fs) in
      let s = sum_member dep.factors fs inside in
      let zero : (w : List ℕ) → v w ≡ Kd.zero = λ w. elim (listed columns w) [
        | inl m ↦ same_at columns v _ (had_from_rows ideal fmd st d v s) w m ∙ zero_leads v es dep.sum w
        | inr off ↦ member_off ideal fmd st d v s w off
      ] in
      all_zero dep.factors dep.other (ind (numbers dep.factors)
      (record {
        count = length-map dep.factors (λ (c : Residue ideal.modulus). c.0) ∙ dep.count ∙ length-map fs (vectors.vector_of ideal.modulus fmd);
        residues =
            All-map (λ c. c < ideal.modulus) (λ (c : Residue ideal.modulus). c.0) dep.factors (λ k c within. (get_or dep.factors k c).1);
      })
      (λ w. ap (λ (n : Residue ideal.modulus). n.0) (vector_of_numbers dep.factors fs w ∙ zero w)))

  -- no fewer members span than there are leading words
  at_least : (fs : List (List Term)) → ((f : List Term) → IsInIdeal ideal d f →
      (cs : List ℕ) × AreFactors ideal.modulus cs fs × IsSame ideal.modulus f (combination cs fs))
      → length fs < length (leading_words ideal fmd st d) → ⊥
  at_least fs span fewer =
      let dep = dependent Kd Vd (map (vectors.vector_of ideal.modulus fmd) fs) (map (reading ideal.modulus fmd) es)
      (omega (
        arith,
        fewer,
        length-map fs (vectors.vector_of ideal.modulus fmd),
        length-map es (reading ideal.modulus fmd),
        length-map es (λ (e : List ℕ × Vd). e.0),
      )) in
      readings_independent ideal.modulus fmd columns es reduced dep.factors (dep.count ∙ length-map es (reading ideal.modulus fmd)) (λ e m.
      let f = element_of e in
      let member = row_member ideal fmd st d e m in
      let c = span f (element_inside ideal fmd st d e.1 member) in
      readings-same ideal.modulus fmd dep.factors es e.1 (vectors.vector_of ideal.modulus fmd (combination c.0 fs))
      (λ y. sym (vector_of_element ideal fmd st d e.1 member y) ∙ same_vectors ideal.modulus fmd f (combination c.0 fs) c.2 y)
      ∙ readings-combination ideal.modulus fmd dep.factors es c.0 fs dep.sum) dep.other

  -- each dimension of a degree is the number of its leading words
  pub only_dimension : (k : ℕ) → IsDimension ideal d k → k ≡ length (leading_words ideal fmd st d)
  only_dimension k h = elim (cases_lt (length h.members) (length (leading_words ideal fmd st d))) [
    | inl fewer ↦ absurd (at_least h.members h.spanning fewer)
    | inr le ↦ elim (cases_lt (length (leading_words ideal fmd st d)) (length h.members)) [
      | inl more ↦ absurd (at_most h.members h.inside h.independent more)
      | inr ge ↦ omega (arith, le, ge, h.count)
    ]
  ]

  abbrev IsLead : List ℕ → Type 0
  IsLead w = IsLeadingWord ideal d w

  abbrev IsNoLead : List ℕ → Type 0
  IsNoLead w = IsLead w → ⊥

  abbrev turned : (w : List ℕ) → IsLead w ⊎ IsNoLead w → IsNoLead w ⊎ (IsNoLead w → ⊥)
  turned w (inl l) = inr (λ n. n l)
  turned w (inr n) = inl n

  abbrev decide : (w : List ℕ) → IsLead w ⊎ IsNoLead w
  decide w = is_leading ideal fmd st d w

  abbrev others : List (List ℕ) → List (List ℕ)
  others xs = kept IsNoLead (λ w. turned w (decide w)) xs

  count_both : (xs : List (List ℕ)) → length (kept IsLead decide xs) + length (others xs) ≡ length xs
  count_both [] = refl
  count_both (x ∷ xs) = by_answer (decide x) (count_both xs)
    where
      by_answer : (a : IsLead x ⊎ IsNoLead x) → length (kept IsLead decide xs) + length (others xs) ≡ length xs
          → length (kept_if IsLead decide x a (kept IsLead decide xs)) + length
          (kept_if IsNoLead (λ w. turned w (decide w)) x (turned x a) (others xs)) ≡ suc (length xs)
      by_answer (inl l) e = omega (arith, e)
      by_answer (inr n) e = omega (arith, e)

  lead_column : (w : List ℕ) → IsLead w → Contains columns w
  lead_column w l =
      let c = Contains-map_cases (λ (e : List ℕ × Vd). e.0) es w (leading_listed ideal fmd st d w l) in
      subst (Contains columns) c.2 (lead_in_columns ideal.modulus fmd columns es reduced c.0 c.1)

  falling_leads : AllPairs IsLetterwiseGreater (leading_words ideal fmd st d)
  falling_leads = AllPairs-map (λ (e : List ℕ × Vd). e.0) (λ (c e : List ℕ × Vd). IsLetterwiseGreater c.0 e.0) IsLetterwiseGreater
      (λ c e g. g) es (leads_falling ideal.modulus fmd columns es reduced (words_of_degree-falling ideal.weights st.are_weights d))

  falling-apart : (xs : List (List ℕ)) → AllPairs IsLetterwiseGreater xs → AllPairs (λ v w. v ≢ w) xs
  falling-apart xs h i j x below within = letterwise-apart _ _ (h i j x below within)

  kept_leads : leading_words ideal fmd st d ≡ kept IsLead decide columns
  kept_leads = same_lists IsLetterwiseGreater (λ w g. letterwise-apart w w g refl) letterwise-trans _ _ falling_leads
      (AllPairs-kept IsLead decide IsLetterwiseGreater columns (words_of_degree-falling ideal.weights st.are_weights d))
      (λ w m. let l = listed_leading ideal fmd st d w m in in_kept IsLead decide columns w (lead_column w l) l)
      (λ w m. leading_listed ideal fmd st d w (kept-says IsLead decide columns w m).1)

  counts : length (leading_words ideal fmd st d) + length (others columns) ≡ length columns
  counts = ap (λ (xs : List (List ℕ)). length xs + length (others columns)) kept_leads ∙ count_both columns

  split_column : (w : List ℕ) → Contains columns w → Contains (leading_words ideal fmd st d) w ⊎ Contains (others columns) w
  split_column w m = elim (decide w) [
    | inl l ↦ inl (leading_listed ideal fmd st d w l)
    | inr n ↦ inr (in_kept IsNoLead (λ w. turned w (decide w)) columns w m n)
  ]

  joined_column : (w : List ℕ) → Contains (leading_words ideal fmd st d) w ⊎ Contains (others columns) w → Contains columns w
  joined_column w (inl m) = lead_column w (listed_leading ideal fmd st d w m)
  joined_column w (inr m) = (kept-says IsNoLead (λ w. turned w (decide w)) columns w m).0

  -- a degree has one dimension, the number of its leading words, and one Hilbert coefficient, the number of its other words
  pub dimension_of_degree : HasDimension ideal d
  dimension_of_degree = record {
    leading = leading_words ideal fmd st d;
    others = others columns;
    are_leading = record {
      exactly = λ w. (listed_leading ideal fmd st d w, leading_listed ideal fmd st d w);
      apart = falling-apart _ falling_leads;
    };
    split = λ w. (split_column w, joined_column w);
    are_others = λ w m. (kept-says IsNoLead (λ w. turned w (decide w)) columns w m).1;
    apart = falling-apart _ (AllPairs-kept IsNoLead (λ w. turned w (decide w)) IsLetterwiseGreater columns
        (words_of_degree-falling ideal.weights st.are_weights d));
    dimension = λ k. (only_dimension k, λ e. subst (IsDimension ideal d) (sym e) has_dimension);
    coefficient = λ h. (
      (λ c. omega (arith, c.rest, only_dimension c.dimension c.is_dimension, counts)),
      λ e. record { dimension = length (leading_words ideal fmd st d); is_dimension = has_dimension; rest = omega (arith, e, counts) },
    );
  }

-- over a field of residues each degree of an ideal has exactly one dimension and one Hilbert coefficient
pub has_one_dimension : HasOneDimension
has_one_dimension ideal st d = dimension_of_degree ideal st d
