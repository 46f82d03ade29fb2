-- Each element has exactly one normal form, which is 0 exactly in the ideal.
use Rattle.std.proofs.Common.{ap₂, ◌≡◌, ◌≢◌, ◌<◌, ◌%◌, ℕ, List, [], ◌∷◌, ◌++◌, length, map, refl, sym, ap, ◌∙◌, inl, inr, subst, All}
use Rattle.std.specs.List.{Contains, flat_map}
use Rattle.std.proofs.Math.Nat.{mod-eq_of_lt, zero-mod}
use Rattle.std.proofs.lemmas.List.Elements.{All-contains, All-map, All-nil}
use Rattle.words.specs.Words.{IsOver, degree_of, words_of_degree}
use Rattle.words.proofs.Degrees.{listed_word, words_of_degree-falling}
use Rattle.words.proofs.Members.{AllPairs-nil, All-from_members, Contains-cases, Contains-first, Contains-map, Contains-map_cases, Contains-more, Contains-none}
use Rattle.words.specs.Order.{IsLetterwiseGreater}
use Rattle.field_table.specs.Residues.{IsFieldModulus}
use Rattle.free_poly.specs.declared.term.Term.{Term}
use Rattle.free_poly.specs.Terms.{total_at}
use Rattle.free_poly.proofs.FromWords.{from_words-absent, from_words-all, from_words-total, listed}
use Rattle.free_poly.proofs.NormalForms.{same_polynomials}
use Rattle.free_poly.proofs.Totals.{total_at-absent}
use Rattle.linear_algebra.specs.Fields.{Field}
use Rattle.linear_algebra.specs.Spans.{sum_of}
use Rattle.linear_algebra.specs.Echelon.{AreSameAt, IsReduced, done, skip, lead, from_leads}
use Rattle.linear_algebra.specs.Mod.{Residue}
use Rattle.linear_algebra.proofs.Algebra.{mul_neg, mul_zero, zero_add, IsInSpan-add, IsInSpan-scaled, IsInSpan-zero}
use Rattle.linear_algebra.proofs.Elimination.{leads-zero, same_span}
use Rattle.linear_algebra.proofs.ModField.{same_residue}
use Rattle.ideal_laws.specs.Ideal.{Ideal, IsElement, IsInIdeal, IsLeadingWord, IsMultiple, Multiple, terms_of}
use Rattle.ideal_laws.specs.Laws.{IsSetting}
use Rattle.ideal_laws.proofs.Leads.{element_form, element_from, element_inside, entries, found, had_from_rows, IsMemberVector, leading_listed}
use Rattle.ideal_laws.proofs.Leads.{listed_leading, member_off, row_member, rows, vector_of_element}
use Rattle.ideal_laws.proofs.OneBasis.{zero_at_lead}
use Rattle.ideal_laws.proofs.Vectors.{IsProductVector, ideal_from_span, same_vectors, span_from_ideal, vector_of-append, vector_of-multiples}
use Rattle.ideal_laws.proofs.Vectors as vectors
use Rattle.cofactors.specs.Laws.{HasNormalForm, TellsMembers}
use Rattle.cofactors.specs.NormalForm.{IsNormalForm}

module _ (p : ℕ) (fm : IsFieldModulus p) where
  abbrev K : Field
  K = vectors.K p fm

  abbrev V : Type 0
  V = List ℕ → Residue p

  -- a and then b taken away and added again
  restored : (a b : Residue p) → K.add (K.add a (K.neg b)) b ≡ a
  restored a b = K.add_assoc a (K.neg b) b ∙ ap (K.add a) (K.add_comm (K.neg b) b ∙ K.add_neg b) ∙ K.add_zero a

  -- where a + b = c + d the differences a - c and d - b are one
  exchanged : (a b c d : Residue p) → K.add a b ≡ K.add c d → K.add a (K.neg c) ≡ K.add d (K.neg b)
  exchanged a b c d e =
      let one : K.add (K.add a (K.neg c)) b ≡ d =
      K.add_assoc a (K.neg c) b ∙ ap (K.add a) (K.add_comm (K.neg c) b) ∙ sym (K.add_assoc a b (K.neg c)) ∙ ap (λ (n : Residue p). K.add n (K.neg c)) e
      ∙ ap (λ (n : Residue p). K.add n (K.neg c)) (K.add_comm c d) ∙ K.add_assoc d c (K.neg c) ∙ ap (K.add d) (K.add_neg c) ∙ K.add_zero d in
      sym (K.add_zero (K.add a (K.neg c))) ∙ ap (K.add (K.add a (K.neg c))) (sym (K.add_neg b))
      ∙ sym (K.add_assoc (K.add a (K.neg c)) b (K.neg b)) ∙ ap (λ (n : Residue p). K.add n (K.neg b)) one

  sum-zero : (es : List (List ℕ × V)) (u : V) → ((e : List ℕ × V) → Contains es e → u e.0 ≡ K.zero) → (y : List ℕ) →
      sum_of K (List ℕ) (from_leads K (List ℕ) es u) y ≡ K.zero
  sum-zero [] u h y = refl
  sum-zero (e ∷ es) u h y =
      ap₂ K.add (ap (λ (n : Residue p). K.mul n (e.1 y)) (h e (Contains-first e es)) ∙ K.mul_comm K.zero (e.1 y) ∙ mul_zero K (e.1 y))
      (sum-zero es u (λ d m. h d (Contains-more e es d m)) y) ∙ K.add_zero K.zero

  same_at : (xs : List (List ℕ)) (u v : V) → AreSameAt K (List ℕ) xs u v → (w : List ℕ) → Contains xs w → u w ≡ v w
  same_at [] u v s w m = absurd (Contains-none w m)
  same_at (x ∷ xs) u v s w m = elim (Contains-cases x xs w m) [
    | inl is ↦ subst (λ (y : List ℕ). u y ≡ v y) is s.0
    | inr n ↦ same_at xs u v s.1 w n
  ]

  minus : (a : Residue p) → K.mul (K.neg K.one) a ≡ K.neg a
  minus a = K.mul_comm (K.neg K.one) a ∙ mul_neg K a K.one ∙ ap K.neg (K.mul_one a)

  -- what is had from the entries at the leading columns has these entries
  own_at : (xs : List (List ℕ)) (es : List (List ℕ × V)) → IsReduced K (List ℕ) xs es → (v : V) (e : List ℕ × V) → Contains es e →
      sum_of K (List ℕ) (from_leads K (List ℕ) es v) e.0 ≡ v e.0
  own_at xs es done v e m = absurd (Contains-none e m)
  own_at xs es (skip x ys es' z r) v e m = own_at ys es r v e m
  own_at xs es (lead x ys q es' one z zl r) v e m = elim (Contains-cases (x, q) es' e m) [
    | inl is ↦ subst (λ (c : List ℕ × V). K.add (K.mul (v x) (q c.0)) (sum_of K (List ℕ) (from_leads K (List ℕ) es' v) c.0) ≡ v c.0) is
        (ap₂ K.add (ap (K.mul (v x)) one ∙ K.mul_one (v x)) (leads-zero K (List ℕ) x es' v z) ∙ K.add_zero (v x))
    | inr n ↦ ap₂ K.add (ap (K.mul (v x)) (zero_at_lead p fm q es' e zl n) ∙ mul_zero K (v x)) (own_at ys es' r v e n) ∙ zero_add K (v e.0)
  ]

  zero_only : (a b : Residue p) → K.add a (K.neg b) ≡ K.zero → a ≡ b
  zero_only a b e = sym (restored a b) ∙ ap (λ (n : Residue p). K.add n b) e ∙ zero_add K b

module _ (ideal : Ideal) (st : IsSetting ideal) (d : ℕ) where
  abbrev fm : IsFieldModulus ideal.modulus
  fm = st.modulus

  abbrev Kd : Field
  Kd = vectors.K ideal.modulus fm

  abbrev Vd : Type 0
  Vd = List ℕ → Residue ideal.modulus

  abbrev columns : List (List ℕ)
  columns = words_of_degree ideal.weights d

  abbrev es : List (List ℕ × Vd)
  es = rows ideal fm st d

  abbrev vec : List Term → Vd
  vec f = vectors.vector_of ideal.modulus fm f

  abbrev Member : Vd → Type 0
  Member = IsMemberVector ideal fm st d

  -- the row combination with the entries of v at the leading columns
  abbrev had : Vd → Vd
  had v = sum_of Kd (List ℕ) (from_leads Kd (List ℕ) es v)

  had_member : (fs : List (List ℕ × Vd)) (v : Vd) → ((e : List ℕ × Vd) → Contains fs e → Contains es e) →
      Member (sum_of Kd (List ℕ) (from_leads Kd (List ℕ) fs v))
  had_member [] v h = IsInSpan-zero Kd (List ℕ) _
  had_member (e ∷ fs) v h = IsInSpan-add Kd (List ℕ) _ _ _ (IsInSpan-scaled Kd (List ℕ) _ (v e.0) e.1
      (row_member ideal fm st d e (h e (Contains-first e fs)))) (had_member fs v (λ g m. h g (Contains-more e fs g m)))

  own_entry : (v : Vd) (e : List ℕ × Vd) → Contains es e → had v e.0 ≡ v e.0
  own_entry v e m = own_at ideal.modulus fm columns es (found ideal fm st d).1.reduced v e m

  module _ (f : List Term) (ef : IsElement ideal.modulus ideal.weights d f) where
    abbrev v : Vd
    v = vec f

    abbrev s : Vd
    s = had v

    -- what is left of f
    abbrev left : Vd
    left w = Kd.add (v w) (Kd.neg (s w))

    -- the same as a polynomial
    abbrev pub normal_form : List Term
    normal_form = element_from ideal fm st d left

    member_s : Member s
    member_s = had_member es v (λ e m. m)

    inside_s : IsInIdeal ideal d (element_from ideal fm st d s)
    inside_s = element_inside ideal fm st d s member_s

    -- f is 0 off the words of the degree
    f_off : (w : List ℕ) → (Contains columns w → ⊥) → v w ≡ Kd.zero
    f_off w off = same_residue ideal.modulus _ _ (ap (λ (n : ℕ). n % ideal.modulus) (total_at-absent f w (All-from_members (λ t. t.word ≢ w) f (λ t m e.
        let over = All-contains (λ (t : Term). IsOver (length ideal.weights) t.word) f t ef.letters m in
        let degree = All-contains (λ (t : Term). degree_of ideal.weights t.word ≡ d) f t ef.degree m in
        off (subst (Contains columns) e (subst (λ (n : ℕ). Contains (words_of_degree ideal.weights n) t.word) degree
        (listed_word ideal.weights st.are_weights t.word over)))))))

    left_total : (w : List ℕ) → vec normal_form w ≡ left w
    left_total w = elim (listed columns w) [
      | inl m ↦ same_residue ideal.modulus _ _ (ap (λ (n : ℕ). n % ideal.modulus) (from_words-total columns (entries ideal.modulus fm left) w
          (words_of_degree-falling ideal.weights st.are_weights d) m) ∙ mod-eq_of_lt (left w).1)
      | inr off ↦ same_residue ideal.modulus _ _ (ap (λ (n : ℕ). n % ideal.modulus) (from_words-absent columns (entries ideal.modulus fm left) w off) ∙ refl)
          ∙ sym (ap₂ (λ (a b : Residue ideal.modulus). Kd.add a (Kd.neg b)) (f_off w off) (member_off ideal fm st d s member_s w off) ∙ Kd.add_neg Kd.zero)
    ]

    -- no word of it is a leading word
    left_normal : All (λ t. IsLeadingWord ideal d t.word → ⊥) normal_form
    left_normal = from_words-all (λ t. IsLeadingWord ideal d t.word → ⊥) columns (entries ideal.modulus fm left) (λ x m some l.
        let there = Contains-map_cases (λ (e : List ℕ × Vd). e.0) es x (leading_listed ideal fm st d x l) in
        let same : s x ≡ v x = subst (λ (y : List ℕ). had v y ≡ v y) there.2 (own_entry v there.0 there.1) in
        let zero : left x ≡ Kd.zero = ap (λ (n : Residue ideal.modulus). Kd.add (v x) (Kd.neg n)) same ∙ Kd.add_neg (v x) in
        some (ap (λ (n : Residue ideal.modulus). n.0) zero ∙ zero-mod ideal.modulus))

    -- it is a normal form of f
    pub is_normal_form : IsNormalForm ideal d f normal_form
    is_normal_form = record {
      element = element_form ideal fm st d left;
      multiples = inside_s.multiples;
      each = inside_s.each;
      sum = λ w. ap (λ (n : Residue ideal.modulus). n.0) (sym (vector_of-append ideal.modulus fm normal_form (flat_map terms_of inside_s.multiples) w
          ∙ ap₂ Kd.add (left_total w) (sym (same_vectors ideal.modulus fm _ (flat_map terms_of inside_s.multiples) inside_s.sum w)
          ∙ vector_of_element ideal fm st d s member_s w)
          ∙ restored ideal.modulus fm (v w) (s w)));
      normal = left_normal;
    }

  none_at : (t : List Term) → All (λ s. IsLeadingWord ideal d s.word → ⊥) t → (w : List ℕ) → IsLeadingWord ideal d w → vec t w ≡ Kd.zero
  none_at t h w l = same_residue ideal.modulus _ _ (ap (λ (n : ℕ). n % ideal.modulus) (total_at-absent t w
      (All-from_members (λ s. s.word ≢ w) t (λ s m e. All-contains (λ (s : Term). IsLeadingWord ideal d s.word → ⊥) t s h m
      (subst (IsLeadingWord ideal d) (sym e) l)))))

  abbrev sum_vector : List Multiple → Vd
  sum_vector ms = vec (flat_map terms_of ms)

  span_of : (ms : List Multiple) → All (IsMultiple ideal d) ms → Member (sum_vector ms)
  span_of ms each = record {
    parts = map (vectors.part ideal.modulus fm) ms;
    each =
        All-map (λ c. IsProductVector ideal fm d c.1) (vectors.part ideal.modulus fm) ms
        (λ k m within. record { multiple = _; is_multiple = each k m within; is = refl });
    sum = vector_of-multiples ideal.modulus fm ms;
  }

  -- the sum of the ones less that of the others
  abbrev difference : List Multiple → List Multiple → Vd
  difference ms ns w = Kd.add (sum_vector ms w) (Kd.neg (sum_vector ns w))

  difference_member : (ms ns : List Multiple) → All (IsMultiple ideal d) ms → All (IsMultiple ideal d) ns →
      Member (difference ms ns)
  difference_member ms ns h k = same_span Kd (List ℕ) _ (λ w. Kd.add (sum_vector ms w) (Kd.mul (Kd.neg Kd.one) (sum_vector ns w)))
      (difference ms ns) (λ w. ap (Kd.add (sum_vector ms w)) (minus ideal.modulus fm (sum_vector ns w)))
      (IsInSpan-add Kd (List ℕ) _ (sum_vector ms) _ (span_of ms h) (IsInSpan-scaled Kd (List ℕ) _ (Kd.neg Kd.one) (sum_vector ns) (span_of ns k)))

  -- a member that is 0 at each leading word is 0
  zero_member : (u : Vd) → Member u → ((e : List ℕ × Vd) → Contains es e → u e.0 ≡ Kd.zero) → (w : List ℕ) → u w ≡ Kd.zero
  zero_member u member zero w = elim (listed columns w) [
    | inl m ↦ same_at ideal.modulus fm columns u (had u) (had_from_rows ideal fm st d u member) w m ∙ sum-zero ideal.modulus fm es u zero w
    | inr off ↦ member_off ideal fm st d u member w off
  ]

  -- two normal forms of one element are one
  same_forms : (f t u : List Term) → IsNormalForm ideal d f t → IsNormalForm ideal d f u → t ≡ u
  same_forms f t u a b =
      let is_diff : (w : List ℕ) → Kd.add (vec t w) (Kd.neg (vec u w)) ≡ difference b.multiples a.multiples w = λ w.
      exchanged ideal.modulus fm (vec t w) (sum_vector a.multiples w) (vec u w) (sum_vector b.multiples w)
      (sym (vector_of-append ideal.modulus fm t (flat_map terms_of a.multiples) w) ∙ sym (same_vectors ideal.modulus fm f _ a.sum w)
      ∙ same_vectors ideal.modulus fm f _ b.sum w
      ∙ vector_of-append ideal.modulus fm u (flat_map terms_of b.multiples) w) in
      let zero_leads : (e : List ℕ × Vd) → Contains es e → difference b.multiples a.multiples e.0 ≡ Kd.zero = λ e m.
      let l = listed_leading ideal fm st d e.0 (Contains-map (λ (c : List ℕ × Vd). c.0) es e m) in
      sym (is_diff e.0) ∙ ap₂ (λ (m n : Residue ideal.modulus). Kd.add m (Kd.neg n)) (none_at t a.normal e.0 l) (none_at u b.normal e.0 l)
      ∙ Kd.add_neg Kd.zero in
      same_polynomials ideal.modulus t u a.element.form b.element.form a.element.residues b.element.residues
      (λ w. ap (λ (n : Residue ideal.modulus). n.0) (zero_only ideal.modulus fm (vec t w) (vec u w)
      (is_diff w ∙ zero_member (difference b.multiples a.multiples) (difference_member b.multiples a.multiples b.each a.each) zero_leads
      w)))

  -- 0 is the normal form of a member
  pub zero_of_member : (f : List Term) → IsInIdeal ideal d f → IsNormalForm ideal d f []
  zero_of_member f i = record {
    element = record {
      form = record { falling = AllPairs-nil (λ s t. IsLetterwiseGreater s.word t.word); nonzero = All-nil (λ t. t.coefficient ≢ 0) };
      residues = All-nil (λ t. t.coefficient < ideal.modulus);
      letters = All-nil (λ t. IsOver (length ideal.weights) t.word);
      degree = All-nil (λ t. degree_of ideal.weights t.word ≡ d);
    };
    multiples = i.multiples;
    each = i.each;
    sum = i.sum;
    normal = All-nil (λ s. IsLeadingWord ideal d s.word → ⊥);
  }

  member_of_zero : (f t : List Term) → IsElement ideal.modulus ideal.weights d f → IsNormalForm ideal d f t → t ≡ [] → IsInIdeal ideal d f
  member_of_zero f t ef n e = record {
    element = ef;
    multiples = n.multiples;
    each = n.each;
    sum = λ w. n.sum w ∙ ap (λ (g : List Term). total_at (g ++ flat_map terms_of n.multiples) w % ideal.modulus) e;
  }

-- each element has exactly one normal form
pub has_normal_form : HasNormalForm
has_normal_form ideal st d f ef = record {
  value = normal_form ideal st d f ef;
  holds = is_normal_form ideal st d f ef;
  only = λ t h. same_forms ideal st d f t _ h (is_normal_form ideal st d f ef);
}

-- an element is in the ideal exactly where its normal form is 0
pub tells_members : TellsMembers
tells_members ideal st d f t ef n = (
  λ i. same_forms ideal st d f t [] n
      (zero_of_member ideal st d f i),
  member_of_zero ideal st d f t ef n,
)
