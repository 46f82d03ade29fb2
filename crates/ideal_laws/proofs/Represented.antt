-- Each member of a degree below d is a sum of multiples of products u * g * v of reduced elements g of degrees below
-- d, with no word greater than its leading word.
use Rattle.std.proofs.Common.{ap₂, ◌≡◌, ◌+◌, ◌%◌, ◌<◌, ◌==◌, ℕ, Bool, false, cond, List, [], ◌∷◌, ◌++◌, length, refl, sym, ap, ◌∙◌, inl, inr, arith}
use Rattle.std.proofs.Common.{AllPairs, subst, Some, append-nil}
use Rattle.std.specs.List.{Contains}
use Rattle.std.proofs.lemmas.Bool.{cases_Bool}
use Rattle.std.proofs.lemmas.List.{append_assoc}
use Rattle.std.proofs.lemmas.List.Elements.{All-contains, All-weaker, Contains-append_cases, Contains-append_right}
use Rattle.words.specs.Words.{IsOver, degree_of, words_of_degree}
use Rattle.words.specs.Order.{IsLetterwiseGreater}
use Rattle.words.proofs.Degrees.{words_of_degree-falling, words_of_degree-says}
use Rattle.words.proofs.Members.{AllPairs-first, AllPairs-rest, Contains-cases, Contains-first, Contains-more, Contains-none}
use Rattle.field_table.specs.Residues.{IsFieldModulus}
use Rattle.free_poly.specs.declared.term.Term.{Term}
use Rattle.free_poly.specs.Terms.{product, total_at}
use Rattle.free_poly.specs.Poly.{IsMonic, IsPolynomial, lead_of}
use Rattle.free_poly.proofs.FromWords.{from_words, listed}
use Rattle.free_poly.proofs.NormalForms.{above_all}
use Rattle.free_poly.proofs.Products.{degree_of-round}
use Rattle.linear_algebra.specs.Fields.{Field}
use Rattle.linear_algebra.specs.Spans.{IsInSpan}
use Rattle.linear_algebra.specs.Mod.{Residue}
use Rattle.linear_algebra.proofs.Algebra.{zero_add, mul_zero, IsInSpan-add, IsInSpan-scaled, IsInSpan-one, IsInSpan-zero}
use Rattle.linear_algebra.proofs.Elimination.{cleared, cleared_here, same_span, uncleared}
use Rattle.linear_algebra.proofs.ModField.{same_residue}
use Rattle.ideal_laws.specs.Ideal.{Ideal, IsInIdeal, IsLeadingWord}
use Rattle.ideal_laws.specs.Basis.{IsReduced}
use Rattle.ideal_laws.specs.Laws.{IsSetting}
use Rattle.ideal_laws.proofs.Closed.{inside_product, lead-product}
use Rattle.ideal_laws.proofs.Factors.{factor_law, All-front, All-back}
use Rattle.ideal_laws.proofs.Leads.{IsMemberVector, element_from, element_inside, entries, member_off, skipped, zero_from}
use Rattle.ideal_laws.proofs.OneBasis.{minimal_led, monic_total}
use Rattle.ideal_laws.proofs.Vectors.{span_from_ideal}
use Rattle.ideal_laws.proofs.Vectors as vectors

-- where R holds of all pairs of a list, it holds of each word before x and x
pub before_it : (R : List ℕ → List ℕ → Type 0) (pre : List (List ℕ)) (x : List ℕ) (xs : List (List ℕ)) → AllPairs R (pre ++ x ∷ xs) →
    (y : List ℕ) → Contains pre y → R y x
before_it R [] x xs h y m = absurd (Contains-none y m)
before_it R (a ∷ pre) x xs h y m = elim (Contains-cases a pre y m) [
  | inl is ↦ subst (λ (b : List ℕ). R b x) is (All-contains (R a) (pre ++ x ∷ xs) x (AllPairs-first R a (pre ++ x ∷ xs) h) (Contains-append_right pre (x ∷ xs) x (Contains-first x xs)))
  | inr n ↦ before_it R pre x xs (AllPairs-rest R a (pre ++ x ∷ xs) h) y n
]

product-monic : (u : List ℕ) (g : List Term) (v : List ℕ) → IsMonic g → IsMonic (product u g v)
product-monic u [] v m = m
product-monic u (t ∷ g) v m = m

-- at a word that is greater than the leading word a polynomial has nothing
above_lead : (f : List Term) (w y : List ℕ) → IsPolynomial f → lead_of f ≡ Some w → IsLetterwiseGreater y w → total_at f y ≡ 0
above_lead [] w y h e g = refl
above_lead (t ∷ f) w y h e g = let is : t.word ≡ w = cc e in above_all y t f h (subst (IsLetterwiseGreater y) (sym is) g)

module _ (ideal : Ideal) (st : IsSetting ideal) where
  abbrev fmr : IsFieldModulus ideal.modulus
  fmr = st.modulus

  abbrev Kr : Field
  Kr = vectors.K ideal.modulus fmr

  abbrev Vr : Type 0
  Vr = List ℕ → Residue ideal.modulus

  -- a reduced element of a degree below d
  pub record IsLower (d : ℕ) (g : List Term) : Type 0 where
    pub degree : ℕ
    pub below : degree < d
    pub reduced : IsReduced ideal degree g

  -- the vector of u * g * v of degree e with leading word w, g a lower element
  pub record IsLowerProduct (d e : ℕ) (w : List ℕ) (v : Vr) : Type 0 where
    pub element : List Term
    pub lower : IsLower d element
    pub lead : List ℕ
    pub is_lead : lead_of element ≡ Some lead
    pub left : List ℕ
    pub right : List ℕ
    pub left_over : IsOver (length ideal.weights) left
    pub right_over : IsOver (length ideal.weights) right
    pub word : w ≡ left ++ lead ++ right
    pub degree : degree_of ideal.weights left + lower.degree + degree_of ideal.weights right ≡ e
    pub is : v ≡ vectors.vector_of ideal.modulus fmr (product left element right)

  -- with a leading word of this list
  abbrev pub IsLowerAmong : ℕ → ℕ → List (List ℕ) → Vr → Type 0
  IsLowerAmong d e xs v = (w : List ℕ) × Contains xs w × IsLowerProduct d e w v

  -- a lower product of degree e is a member of degree e
  pub lower_inside : (d e : ℕ) (w : List ℕ) (v : Vr) → (h : IsLowerProduct d e w v) → IsInIdeal ideal e (product h.left h.element h.right)
  lower_inside d e w v h = subst (λ (n : ℕ). IsInIdeal ideal n (product h.left h.element h.right)) h.degree
      (inside_product ideal.modulus ideal.weights st.are_weights ideal.relations h.lower.degree h.left h.element h.right h.left_over h.right_over
      h.lower.reduced.inside)

  lower_lead : (d e : ℕ) (w : List ℕ) (v : Vr) → (h : IsLowerProduct d e w v) → lead_of (product h.left h.element h.right) ≡ Some w
  lower_lead d e w v h = lead-product h.left h.element h.right h.lead h.is_lead ∙ ap Some (sym h.word)

  -- a lower product is 1 at its leading word
  pub lower_one : (d e : ℕ) (w : List ℕ) (v : Vr) → IsLowerProduct d e w v → v w ≡ Kr.one
  lower_one d e w v h =
      let i = lower_inside d e w v h in
      ap (λ (u : Vr). u w) h.is ∙ same_residue ideal.modulus _ _ (ap (λ (n : ℕ). n % ideal.modulus)
      (monic_total (product h.left h.element h.right) w (lower_lead d e w v h) i.element.form
      (product-monic h.left h.element h.right h.lower.reduced.monic)))

  -- a lower product is 0 at each word that is greater than its leading word
  pub lower_above : (d e : ℕ) (w y : List ℕ) (v : Vr) → IsLowerProduct d e w v → IsLetterwiseGreater y w → v y ≡ Kr.zero
  lower_above d e w y v h g =
      let i = lower_inside d e w v h in
      ap (λ (u : Vr). u y) h.is ∙ same_residue ideal.modulus _ _ (ap (λ (n : ℕ). n % ideal.modulus)
      (above_lead (product h.left h.element h.right) w y i.element.form (lower_lead d e w v h) g))

  -- a leading word of a degree below d is that of a product of a lower element
  pub lower_at : (d e : ℕ) → e < d → (w : List ℕ) → IsOver (length ideal.weights) w → degree_of ideal.weights w ≡ e →
      IsLeadingWord ideal e w → (v : Vr) × IsLowerProduct d e w v
  lower_at d e below w over deg l =
      let f = (factor_law ideal st w over).0 (subst (λ (n : ℕ). IsLeadingWord ideal n w) (sym deg) l) in
      let m = f.0 in
      let i = f.1 in
      let g = minimal_led ideal st m f.2 in
      let sizes = ap (degree_of ideal.weights) i.joined ∙ degree_of-round ideal.weights i.before m i.after in
      let whole = subst (IsOver (length ideal.weights)) i.joined over in (
        vectors.vector_of ideal.modulus fmr (product i.before g.0 i.after),
        record {
          element = g.0;
          lower = record { degree = degree_of ideal.weights m; below = omega (arith, below, deg, sizes); reduced = g.1 };
          lead = m;
          is_lead = g.2;
          left = i.before;
          right = i.after;
          left_over = All-front (λ x. x < length ideal.weights) i.before m (All-front (λ x. x < length ideal.weights) (i.before ++ m) i.after whole);
          right_over = All-back (λ x. x < length ideal.weights) (i.before ++ m) i.after whole;
          word = i.joined;
          degree = sym sizes ∙ deg;
          is = refl;
        },
      )

  module _ (d e : ℕ) (below : e < d) where
    abbrev columns : List (List ℕ)
    columns = words_of_degree ideal.weights e

    lead_at : (pre : List (List ℕ)) (x : List ℕ) (xs : List (List ℕ)) (v : Vr) → ((y : List ℕ) → Contains pre y → v y ≡ Kr.zero) → ((v x).0 == 0) ≡ false
        → lead_of (from_words (pre ++ x ∷ xs) (entries ideal.modulus fmr v)) ≡ Some x
    lead_at [] x xs v none some = ap (λ (b : Bool). lead_of (cond b (from_words xs (entries ideal.modulus fmr v))
        (record { word = x; coefficient = (v x).0 } ∷ from_words xs (entries ideal.modulus fmr v)))) some
    lead_at (y ∷ pre) x xs v none some =
        ap lead_of (skipped ideal.modulus fmr y (pre ++ x ∷ xs) v (none y (Contains-first y pre)))
        ∙ lead_at pre x xs v (λ z m. none z (Contains-more y pre z m)) some

    fewer : (x : List ℕ) (xs : List (List ℕ)) (v : Vr) → IsInSpan Kr (List ℕ) (IsLowerAmong d e xs) v → IsInSpan Kr (List ℕ) (IsLowerAmong d e (x ∷ xs)) v
    fewer x xs v s = record {
      parts = s.parts;
      each = All-weaker (λ c. IsLowerAmong d e xs c.1) (λ c. IsLowerAmong d e (x ∷ xs) c.1) (λ c h. (h.0, Contains-more x xs h.0 h.1, h.2)) s.parts s.each;
      sum = s.sum;
    }

    cleared_stays : (x y : List ℕ) (q v : Vr) → v y ≡ Kr.zero → q y ≡ Kr.zero → cleared Kr (List ℕ) x q v y ≡ Kr.zero
    cleared_stays x y q v none nothing = ap₂ (λ (m n : Residue ideal.modulus). Kr.add m (Kr.mul (Kr.neg (v x)) n)) none nothing ∙ zero_add Kr _
        ∙ mul_zero Kr (Kr.neg (v x))

    -- a member of a degree below d that is 0 at all of its words but xs is a sum of multiples of lower products with leading words in xs
    pub represented_from : (xs pre : List (List ℕ)) → columns ≡ pre ++ xs → (v : Vr) → IsMemberVector ideal fmr st e v →
        ((y : List ℕ) → Contains pre y → v y ≡ Kr.zero)
        → IsInSpan Kr (List ℕ) (IsLowerAmong d e xs) v
    represented_from [] pre is v s none =
        let all : (w : List ℕ) → v w ≡ Kr.zero = λ w. elim (listed columns w) [
          | inl m ↦ none w (subst (λ (ws : List (List ℕ)). Contains ws w) (is ∙ append-nil pre) m)
          | inr off ↦ member_off ideal fmr st e v s w off
        ] in
        same_span Kr (List ℕ) _ (λ y. Kr.zero) v (λ y. sym (all y)) (IsInSpan-zero Kr (List ℕ) _)
    represented_from (x ∷ xs) pre is v s none =
        let next : columns ≡ (pre ++ x ∷ []) ++ xs = is ∙ sym (append_assoc pre (x ∷ []) xs) in
        let here : Contains columns x = subst (λ (ws : List (List ℕ)). Contains ws x) (sym is) (Contains-append_right pre (x ∷ xs) x (Contains-first x xs)) in
        elim (cases_Bool ((v x).0 == 0)) [
          | inl nothing ↦ fewer x xs v (represented_from xs (pre ++ x ∷ []) next v s (λ y m. elim (Contains-append_cases pre (x ∷ []) y m) [
            | inl k ↦ none y k
            | inr k ↦ elim (Contains-cases x [] y k) [
              | inl e ↦ ap v (sym e) ∙ zero_from ideal.modulus fmr v x nothing
              | inr k ↦ absurd (Contains-none y k)
            ]
          ]))
          | inr some ↦
              let says = words_of_degree-says ideal.weights st.are_weights e x here in
              let lead = ap (λ (ws : List (List ℕ)). lead_of (from_words ws (entries ideal.modulus fmr v))) is ∙ lead_at pre x xs v none some in
              let q = lower_at d e below x says.0 says.1 (record {
                member = element_from ideal fmr st e v;
                inside = element_inside ideal fmr st e v s;
                lead = lead;
              }) in
              let falling = subst (AllPairs IsLetterwiseGreater) is (words_of_degree-falling ideal.weights st.are_weights e) in
              let q_member : IsMemberVector ideal fmr st e q.0 =
              subst (IsMemberVector ideal fmr st e) (sym q.1.is)
              (span_from_ideal ideal fmr e _ (lower_inside d e x q.0 q.1)) in
              let left = cleared Kr (List ℕ) x q.0 v in
              let left_member = IsInSpan-add Kr (List ℕ) _ v (λ y. Kr.mul (Kr.neg (v x)) (q.0 y)) s
              (IsInSpan-scaled Kr (List ℕ) _ (Kr.neg (v x)) q.0 q_member) in
              let rest = represented_from xs (pre ++ x ∷ []) next left left_member (λ y m. elim (Contains-append_cases pre (x ∷ []) y m) [
                | inl k ↦ cleared_stays x y q.0 v (none y k) (lower_above d e x y q.0 q.1 (before_it IsLetterwiseGreater pre x xs falling y k))
                | inr k ↦ elim (Contains-cases x [] y k) [
                  | inl e ↦ ap left (sym e) ∙ cleared_here Kr (List ℕ) (v x) (q.0 x) (lower_one d _ x q.0 q.1)
                  | inr k ↦ absurd (Contains-none y k)
                ]
              ]) in
              same_span Kr (List ℕ) _ (λ y. Kr.add (Kr.mul (v x) (q.0 y)) (left y)) v (uncleared Kr (List ℕ) x q.0 v)
              (IsInSpan-add Kr (List ℕ) _ _ left (IsInSpan-scaled Kr (List ℕ) _ (v x) q.0
              (IsInSpan-one Kr (List ℕ) _ q.0 (x, Contains-first x xs, q.1))) (fewer x xs left rest))
        ]

    -- a member of a degree below d is a sum of multiples of lower products of its degree
    pub represented : (f : List Term) → IsInIdeal ideal e f → IsInSpan Kr (List ℕ) (IsLowerAmong d e columns) (vectors.vector_of ideal.modulus fmr f)
    represented f i = represented_from columns [] refl (vectors.vector_of ideal.modulus fmr f) (span_from_ideal ideal fmr e f i)
        (λ y m. absurd (Contains-none y m))
