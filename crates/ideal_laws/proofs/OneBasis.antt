-- Each degree has exactly one reduced basis: the rows of a reduced basis of its products whose leading words are
-- minimal.
use Rattle.std.proofs.Common.{◌≡◌, ◌≢◌, ◌⊎◌, ◌+◌, ◌%◌, ◌==◌, ℕ, Bool, true, cond, List, [], ◌∷◌, map, refl, sym, ap, ◌∙◌, inl, inr, arith, All}
use Rattle.std.proofs.Common.{AllPairs, subst, bytes_eq, Some}
use Rattle.std.specs.List.{Contains}
use Rattle.std.proofs.Math.Nat.{mod-eq_of_lt, zero-mod}
use Rattle.std.proofs.lemmas.Bool.{cases_Bool}
use Rattle.std.proofs.lemmas.List.Elements.{All-contains, All-head}
use Rattle.std.proofs.lemmas.List.Kept.{AllPairs-cons}
use Rattle.std.proofs.lemmas.Option.{same_Some}
use Rattle.std.proofs.lemmas.Slice.Eq.{bytes_eq-Decides}
use Rattle.words.specs.Words.{degree_of, words_of_degree}
use Rattle.words.specs.Order.{IsLetterwiseGreater}
use Rattle.words.proofs.Degrees.{words_of_degree-falling}
use Rattle.words.proofs.Members.{AllPairs-first, AllPairs-nil, AllPairs-rest, All-from_members, Contains-cases, Contains-first, Contains-map}
use Rattle.words.proofs.Members.{Contains-map_cases, Contains-more, Contains-none}
use Rattle.field_table.specs.Residues.{IsFieldModulus}
use Rattle.free_poly.specs.declared.term.Term.{Term}
use Rattle.free_poly.specs.Poly.{IsMonic, IsPolynomial, lead_of}
use Rattle.free_poly.specs.Terms.{total_at}
use Rattle.free_poly.proofs.FromWords.{from_words, from_words-all}
use Rattle.free_poly.proofs.NormalForms.{letterwise-trans}
use Rattle.free_poly.proofs.Totals.{here, letterwise-apart, total_at-absent}
use Rattle.linear_algebra.specs.Fields.{Field}
use Rattle.linear_algebra.specs.Spans.{sum_of}
use Rattle.linear_algebra.specs.Echelon.{AreSameAt, IsReduced, IsZeroAtLeads, done, skip, lead, from_leads}
use Rattle.linear_algebra.specs.Mod.{Residue}
use Rattle.linear_algebra.proofs.ModField.{same_residue}
use Rattle.linear_algebra.proofs.Unique.{AreSameAt-trans}
use Rattle.ideal_laws.specs.Ideal.{Ideal, IsLeadingWord, IsMinimal}
use Rattle.ideal_laws.specs.Basis.{HasGreaterLead, IsReduced as IsReducedElement, IsReducedBasis, below_lead}
use Rattle.ideal_laws.specs.Laws.{HasOneBasis, IsSetting}
use Rattle.ideal_laws.proofs.Factors.{is_minimal}
use Rattle.ideal_laws.proofs.Leads.{element_form, element_from, element_inside, entries, found, had_from_rows, leading_listed, listed_leading}
use Rattle.ideal_laws.proofs.Leads.{member_is, row_leads, row_member, rows, zero_at_member}
use Rattle.ideal_laws.proofs.Search.{AllPairs-kept, in_kept, kept, kept-says, same_lists}
use Rattle.ideal_laws.proofs.Vectors.{span_from_ideal}
use Rattle.ideal_laws.proofs.Vectors as vectors

-- no element has a greater leading word than itself
pub greater_strict : (f : List Term) → HasGreaterLead f f → ⊥
greater_strict f h = letterwise-apart h.of_f h.of_g h.greater (same_Some h.of_f h.of_g (sym h.leads_f ∙ h.leads_g))

-- the order of elements by their leading words is transitive
pub greater_trans : (f g h : List Term) → HasGreaterLead f g → HasGreaterLead g h → HasGreaterLead f h
greater_trans f g h a b = record {
  of_f = a.of_f;
  of_g = b.of_g;
  leads_f = a.leads_f;
  leads_g = b.leads_g;
  greater = letterwise-trans a.of_f a.of_g b.of_g a.greater (subst (λ (w : List ℕ). IsLetterwiseGreater w b.of_g)
      (same_Some b.of_f a.of_g (sym b.leads_f ∙ a.leads_g)) b.greater);
}

-- a polynomial other than 0 begins with its leading word
pub record IsLed (f : List Term) (w : List ℕ) : Type 0 where
  pub first : Term
  pub rest : List Term
  pub is : f ≡ first ∷ rest
  pub word : first.word ≡ w

-- a polynomial with the leading word w is a term at w and a rest
pub led : (f : List Term) (w : List ℕ) → lead_of f ≡ Some w → IsLed f w
led [] w e = cc e
led (t ∷ f) w e = record { first = t; rest = f; is = refl; word = cc e }

below-all : (P : Term → Type 0) (f : List Term) (w : List ℕ) → lead_of f ≡ Some w → IsPolynomial f →
    ((t : Term) → Contains f t → IsLetterwiseGreater w t.word → P t) → All P (below_lead f)
below-all P [] w e h q = cc e
below-all P (t ∷ f) w e h q =
    let is : t.word ≡ w = cc e in
    All-from_members P f (λ s m. q s (Contains-more t f s m) (subst (λ (x : List ℕ). IsLetterwiseGreater x s.word) is
    (All-contains (λ s. IsLetterwiseGreater t.word s.word) f s (AllPairs-first (λ s t. IsLetterwiseGreater s.word t.word) t f h.falling)
    m)))

-- a monic polynomial has the coefficient 1 at its leading word
pub monic_total : (f : List Term) (w : List ℕ) → lead_of f ≡ Some w → IsPolynomial f → IsMonic f → total_at f w ≡ 1
monic_total [] w e h m = absurd m
monic_total (t ∷ f) w e h m =
    let is : t.word ≡ w = cc e in
    let none : total_at f w ≡ 0 = total_at-absent f w (λ k s within same. letterwise-apart _ _
    (AllPairs-first (λ s t. IsLetterwiseGreater s.word t.word) t f h.falling k s within) (is ∙ sym same)) in
    ap (λ (b : Bool). cond b t.coefficient 0 + total_at f w) (here t.word w is) ∙ omega (arith, m, none)

-- at a word in L other than its leading word a polynomial has 0, where none of its other words is in L
other_total : (f : List Term) (w : List ℕ) (L : List ℕ → Type 0) → lead_of f ≡ Some w → All (λ t. L t.word → ⊥) (below_lead f) →
    (x : List ℕ) → L x → x ≢ w → total_at f x ≡ 0
other_total [] w L e h x l ne = refl
other_total (t ∷ f) w L e h x l ne =
    let is : t.word ≡ w = cc e in
    total_at-absent (t ∷ f) x (All-from_members (λ s. s.word ≢ x) (t ∷ f) (λ s m. elim (Contains-cases t f s m) [
      | inl same ↦ λ there. ne (sym there ∙ ap (λ (r : Term). r.word) (sym same) ∙ is)
      | inr n ↦ λ there. All-contains (λ s. L s.word → ⊥) f s h n (subst L (sym there) l)
    ]))

-- a monic polynomial has a leading word
pub monic-led : (f : List Term) → IsMonic f → (w : List ℕ) × (lead_of f ≡ Some w)
monic-led [] m = absurd m
monic-led (t ∷ f) m = (t.word, refl)

module _ (p : ℕ) (fm : IsFieldModulus p) where
  abbrev K : Field
  K = vectors.K p fm

  abbrev V : Type 0
  V = List ℕ → Residue p

  -- a vector that is 0 at the leading columns of a list of rows is 0 at that of each of them
  pub zero_at_lead : (v : V) (es : List (List ℕ × V)) (e : List ℕ × V) → IsZeroAtLeads K (List ℕ) v es → Contains es e → v e.0 ≡ K.zero
  zero_at_lead v [] e z m = absurd (Contains-none e m)
  zero_at_lead v (d ∷ es) e z m = elim (Contains-cases d es e m) [
    | inl is ↦ ap (λ (r : List ℕ × V). v r.0) (sym is) ∙ z.0
    | inr n ↦ zero_at_lead v es e z.1 n
  ]

  -- a row is 1 at its own leading column
  pub row_one : (xs : List (List ℕ)) (es : List (List ℕ × V)) → IsReduced K (List ℕ) xs es → (e : List ℕ × V) → Contains es e → e.1 e.0 ≡ K.one
  row_one xs es done e m = absurd (Contains-none e m)
  row_one xs es (skip x ys es' z r) e m = row_one ys es r e m
  row_one xs es (lead x ys v es' one z zl r) e m = elim (Contains-cases (x, v) es' e m) [
    | inl is ↦ subst (λ (d : List ℕ × V). d.1 d.0 ≡ K.one) is one
    | inr n ↦ row_one ys es' r e n
  ]

  -- a row is 0 at the leading columns of the other rows
  pub row_zero : (xs : List (List ℕ)) (es : List (List ℕ × V)) → IsReduced K (List ℕ) xs es → (e d : List ℕ × V) → Contains es e →
      Contains es d → d.0 ≢ e.0 → e.1 d.0 ≡ K.zero
  row_zero xs es done e d m n ne = absurd (Contains-none e m)
  row_zero xs es (skip x ys es' z r) e d m n ne = row_zero ys es r e d m n ne
  row_zero xs es (lead x ys v es' one z zl r) e d m n ne = elim (Contains-cases (x, v) es' e m) [
    | inl is ↦ elim (Contains-cases (x, v) es' d n) [
      | inl same ↦ absurd (ne (ap (λ (c : List ℕ × V). c.0) (sym same ∙ is)))
      | inr k ↦ ap (λ (c : List ℕ × V). c.1 d.0) (sym is) ∙ zero_at_lead v es' d zl k
    ]
    | inr j ↦ elim (Contains-cases (x, v) es' d n) [
      | inl same ↦ ap (λ (c : List ℕ × V). e.1 c.0) (sym same) ∙ zero_at_member p fm x es' e z j
      | inr k ↦ row_zero ys es' r e d j k ne
    ]
  ]

  -- the leading column of a row is one of the columns
  pub lead_in_columns : (xs : List (List ℕ)) (es : List (List ℕ × V)) → IsReduced K (List ℕ) xs es → (e : List ℕ × V) → Contains es e → Contains xs e.0
  lead_in_columns xs es done e m = absurd (Contains-none e m)
  lead_in_columns xs es (skip x ys es' z r) e m = Contains-more x ys e.0 (lead_in_columns ys es r e m)
  lead_in_columns xs es (lead x ys v es' one z zl r) e m = elim (Contains-cases (x, v) es' e m) [
    | inl is ↦ subst (λ (d : List ℕ × V). Contains (x ∷ ys) d.0) is (Contains-first x ys)
    | inr n ↦ Contains-more x ys e.0 (lead_in_columns ys es' r e n)
  ]

  -- where the columns fall, the rows stand by falling leading columns
  pub leads_falling : (xs : List (List ℕ)) (es : List (List ℕ × V)) → IsReduced K (List ℕ) xs es → AllPairs IsLetterwiseGreater xs →
      AllPairs (λ (d e : List ℕ × V). IsLetterwiseGreater d.0 e.0) es
  leads_falling xs es done h = AllPairs-nil (λ (d e : List ℕ × V). IsLetterwiseGreater d.0 e.0)
  leads_falling xs es (skip x ys es' z r) h = leads_falling ys es r (AllPairs-rest IsLetterwiseGreater x ys h)
  leads_falling xs es (lead x ys v es' one z zl r) h =
      AllPairs-cons (λ (d e : List ℕ × V). IsLetterwiseGreater d.0 e.0) (x, v) es'
      (All-from_members (λ (e : List ℕ × V). IsLetterwiseGreater x e.0) es'
      (λ e m. All-contains (IsLetterwiseGreater x) ys e.0 (AllPairs-first IsLetterwiseGreater x ys h) (lead_in_columns ys es' r e m)))
      (leads_falling ys es' r (AllPairs-rest IsLetterwiseGreater x ys h))

  from_leads-same : (es : List (List ℕ × V)) (u v : V) → ((e : List ℕ × V) → Contains es e → u e.0 ≡ v e.0) → (y : List ℕ) →
      sum_of K (List ℕ) (from_leads K (List ℕ) es u) y ≡ sum_of K (List ℕ) (from_leads K (List ℕ) es v) y
  from_leads-same [] u v h y = refl
  from_leads-same (e ∷ es) u v h y =
      λ i. K.add (K.mul (h e (Contains-first e es) i) (e.1 y)) (from_leads-same es u v (λ d m. h d (Contains-more e es d m)) y i)

  from_words-same : (xs : List (List ℕ)) (u v s : V) → AreSameAt K (List ℕ) xs u s → AreSameAt K (List ℕ) xs v s →
      from_words xs (entries p fm u) ≡ from_words xs (entries p fm v)
  from_words-same [] u v s a b = refl
  from_words-same (x ∷ xs) u v s a b =
      λ i. cond (((a.0 ∙ sym b.0) i).0 == 0) (from_words-same xs u v s a.1 b.1 i)
      (record { word = x; coefficient = ((a.0 ∙ sym b.0) i).0 } ∷ from_words-same xs u v s a.1 b.1 i)

  from_words-monic : (xs : List (List ℕ)) (v : V) (w : List ℕ) → lead_of (from_words xs (entries p fm v)) ≡ Some w → v w ≡ K.one →
      IsMonic (from_words xs (entries p fm v))
  from_words-monic xs v w e one =
      let l = led (from_words xs (entries p fm v)) w e in
      let c = All-head (λ (t : Term). t.coefficient ≡ (v t.word).0) l.first l.rest
      (subst (All (λ (t : Term). t.coefficient ≡ (v t.word).0)) l.is
      (from_words-all (λ t. t.coefficient ≡ (v t.word).0) xs (entries p fm v) (λ x m ne. refl))) in
      subst IsMonic (sym l.is) (c ∙ ap (λ (x : List ℕ). (v x).0) l.word ∙ ap (λ (n : Residue p). n.0) one
      ∙ mod-eq_of_lt {n = 1} {m = p} (omega (arith, fm.two_or_more)))

module _ (ideal : Ideal) (st : IsSetting ideal) (d : ℕ) where
  abbrev fm : IsFieldModulus ideal.modulus
  fm = st.modulus

  abbrev RowVector : Type 0
  RowVector = List ℕ → Residue ideal.modulus

  abbrev es : List (List ℕ × RowVector)
  es = rows ideal fm st d

  abbrev element_of : List ℕ × RowVector → List Term
  element_of e = element_from ideal fm st d e.1

  abbrev IsMinimalRow : List ℕ × RowVector → Type 0
  IsMinimalRow e = IsMinimal ideal e.0

  minimal_row : (e : List ℕ × RowVector) → IsMinimalRow e ⊎ (IsMinimalRow e → ⊥)
  minimal_row e = is_minimal ideal st e.0

  -- the elements from the rows with minimal leading columns, in their order
  pub basis : List (List Term)
  basis = map element_of (kept IsMinimalRow minimal_row es)

  row_reduced : (e : List ℕ × RowVector) → Contains es e → IsMinimalRow e → IsReducedElement ideal d (element_of e)
  row_reduced e m minimal =
      let r = (found ideal fm st d).1.reduced in
      let leads = row_leads ideal fm st d e m in
      let form = element_form ideal fm st d e.1 in
      record {
        inside = element_inside ideal fm st d e.1 (row_member ideal fm st d e m);
        monic = from_words-monic ideal.modulus fm (words_of_degree ideal.weights d) e.1 e.0 leads (row_one ideal.modulus fm _ _ r e m);
        minimal = λ w is. subst (IsMinimal ideal) (same_Some e.0 w (sym leads ∙ is)) minimal;
        others = below-all (λ t. IsLeadingWord ideal d t.word → ⊥) (element_of e) e.0 leads form.form (λ t n greater l.
            let there = Contains-map_cases (λ (c : List ℕ × RowVector). c.0) es t.word (leading_listed ideal fm st d t.word l) in
            let zero = row_zero ideal.modulus fm _ _ r e there.0 m there.1 (λ same. letterwise-apart e.0 t.word greater (sym same ∙ there.2)) in
            let c = All-contains (λ (s : Term). (s.coefficient ≡ (e.1 s.word).0) × (s.coefficient ≢ 0)) (element_of e) t
            (from_words-all (λ s. (s.coefficient ≡ (e.1 s.word).0) × (s.coefficient ≢ 0)) (words_of_degree ideal.weights d) (entries ideal.modulus fm e.1)
            (λ x k ne. (refl, ne))) n in
            c.1 (c.0 ∙ ap (λ (x : List ℕ). (e.1 x).0) (sym there.2) ∙ ap (λ (n : Residue ideal.modulus). n.0) zero ∙ zero-mod ideal.modulus));
      }

  -- a reduced member is the row with its leading word
  reduced_row : (f : List Term) → IsReducedElement ideal d f → Contains basis f
  unfolding basis
  reduced_row f h =
      let r = (found ideal fm st d).1.reduced in
      let w = monic-led f h.monic in
      let there = Contains-map_cases (λ (c : List ℕ × RowVector). c.0) es w.0
      (leading_listed ideal fm st d w.0 (record { member = f; inside = h.inside; lead = w.1 })) in
      let e = there.0 in
      let v = vectors.vector_of ideal.modulus fm f in
      let same : (c : List ℕ × RowVector) → Contains es c → v c.0 ≡ e.1 c.0 = λ c m. elim (cases_Bool (bytes_eq c.0 w.0)) [
        | inl is ↦
            let at = (bytes_eq-Decides c.0 w.0).0 is in
            same_residue ideal.modulus _ _ (ap (λ (x : List ℕ). total_at f x % ideal.modulus) at
            ∙ ap (λ (n : ℕ). n % ideal.modulus) (monic_total f w.0 w.1 h.inside.element.form h.monic))
            ∙ sym (ap e.1 (at ∙ sym there.2) ∙ row_one ideal.modulus fm _ _ r e there.1)
        | inr other ↦
            let ne : c.0 ≢ w.0 = λ at. (let t : bytes_eq c.0 w.0 ≡ true = here c.0 w.0 at in cc) in
            same_residue ideal.modulus _ _ (ap (λ (n : ℕ). n % ideal.modulus) (other_total f w.0 (IsLeadingWord ideal d) w.1 h.others c.0
            (listed_leading ideal fm st d c.0 (Contains-map (λ (b : List ℕ × RowVector). b.0) es c m)) ne))
            ∙ sym (row_zero ideal.modulus fm _ _ r e c there.1 m (λ at. ne (at ∙ there.2)))
      ] in
      let had_f = had_from_rows ideal fm st d v (span_from_ideal ideal fm d f h.inside) in
      let had_e = had_from_rows ideal fm st d e.1 (row_member ideal fm st d e there.1) in
      let is : f ≡ element_of e = member_is ideal fm st d f h.inside
      ∙ from_words-same ideal.modulus fm (words_of_degree ideal.weights d) v e.1 _
      (AreSameAt-trans (vectors.K ideal.modulus fm) (List ℕ) (words_of_degree ideal.weights d) v _ _ had_f
      (from_leads-same ideal.modulus fm es v e.1 same)) had_e in
      subst (Contains basis) (sym is) (Contains-map element_of (kept IsMinimalRow minimal_row es) e
      (in_kept IsMinimalRow minimal_row es e there.1 (subst (IsMinimal ideal) (sym there.2) (h.minimal w.0 w.1))))

  -- these elements are the reduced basis of the degree
  pub is_basis : IsReducedBasis ideal d basis
  unfolding basis
  is_basis = record {
    exactly = λ f. (
      (λ m. let c = Contains-map_cases element_of (kept IsMinimalRow minimal_row es) f m in
          let k = kept-says IsMinimalRow minimal_row es c.0 c.1 in
          subst (IsReducedElement ideal d) c.2 (row_reduced c.0 k.0 k.1)),
      reduced_row f,
    );
    falling = falling_rows (kept IsMinimalRow minimal_row es) (λ e m. (kept-says IsMinimalRow minimal_row es e m).0)
        (AllPairs-kept IsMinimalRow minimal_row (λ (c e : List ℕ × RowVector). IsLetterwiseGreater c.0 e.0) es
        (leads_falling ideal.modulus fm _ _ (found ideal fm st d).1.reduced (words_of_degree-falling ideal.weights st.are_weights d)));
  }
    where
      falling_rows : (cs : List (List ℕ × RowVector)) → ((e : List ℕ × RowVector) → Contains cs e → Contains es e) →
          AllPairs (λ (c e : List ℕ × RowVector). IsLetterwiseGreater c.0 e.0) cs → AllPairs HasGreaterLead (map element_of cs)
      falling_rows [] h f = AllPairs-nil HasGreaterLead
      falling_rows (c ∷ cs) h f =
          AllPairs-cons HasGreaterLead (element_of c) (map element_of cs)
          (All-from_members (HasGreaterLead (element_of c)) (map element_of cs) (λ g m.
          let e = Contains-map_cases element_of cs g m in
          subst (HasGreaterLead (element_of c)) e.2 (record {
            of_f = c.0;
            of_g = e.0.0;
            leads_f = row_leads ideal fm st d c (h c (Contains-first c cs));
            leads_g = row_leads ideal fm st d e.0 (h e.0 (Contains-more c cs e.0 e.1));
            greater = All-contains (λ (b : List ℕ × RowVector). IsLetterwiseGreater c.0 b.0) cs e.0
                (AllPairs-first (λ (c e : List ℕ × RowVector). IsLetterwiseGreater c.0 e.0) c cs f) e.1;
          })))
          (falling_rows cs (λ e m. h e (Contains-more c cs e m)) (AllPairs-rest (λ (c e : List ℕ × RowVector). IsLetterwiseGreater c.0 e.0) c cs f))

-- each minimal word is the leading word of a reduced element of its degree
pub minimal_led : (ideal : Ideal) (st : IsSetting ideal) (w : List ℕ) → IsMinimal ideal w
    → (f : List Term) × IsReducedElement ideal (degree_of ideal.weights w) f × (lead_of f ≡ Some w)
minimal_led ideal st w h =
    let d = degree_of ideal.weights w in
    let c = Contains-map_cases (λ (e : List ℕ × (List ℕ → Residue ideal.modulus)). e.0) (rows ideal st.modulus st d) w
    (leading_listed ideal st.modulus st d w h.leading) in (
      element_from ideal st.modulus st d c.0.1,
      row_reduced ideal st d c.0 c.1 (subst (IsMinimal ideal) (sym c.2) h),
      row_leads ideal st.modulus st d c.0 c.1 ∙ ap Some c.2,
    )

-- two reduced bases of one degree are one
pub bases_are_one : (ideal : Ideal) (d : ℕ) (fs gs : List (List Term)) → IsReducedBasis ideal d fs → IsReducedBasis ideal d gs → fs ≡ gs
bases_are_one ideal d fs gs a b =
    same_lists HasGreaterLead greater_strict greater_trans fs gs a.falling b.falling (λ f m. (b.exactly f).1 ((a.exactly f).0 m))
    (λ f m. (a.exactly f).1 ((b.exactly f).0 m))

-- over a field of residues each degree of an ideal has exactly one reduced basis
pub has_one_basis : HasOneBasis
has_one_basis ideal st d = record {
  value = basis ideal st d;
  holds = is_basis ideal st d;
  only = λ fs h. bases_are_one ideal d fs (basis ideal st d) h (is_basis ideal st d);
}
