-- The leading words of a degree are the leading columns of a reduced basis of its products, so a word is one of them
-- or not.
use Rattle.std.proofs.Common.{◌≡◌, ◌⊎◌, ◌%◌, ◌<◌, ◌==◌, ℕ, Bool, true, false, cond, List, [], ◌∷◌, map, length, get_or, sym, ap, ◌∙◌, inl, inr, subst}
use Rattle.std.proofs.Common.{Some, arith}
use Rattle.std.specs.List.{Contains}
use Rattle.std.proofs.Math.Nat.{mod-eq_of_lt, mod-mod, zero-mod}
use Rattle.std.proofs.lemmas.Bool.{cases_Bool, eqb-true}
use Rattle.std.proofs.lemmas.List.Elements.{All-weaker, All-contains}
use Rattle.std.proofs.lemmas.Option.{same_Some}
use Rattle.words.specs.Words.{IsOver, degree_of, words_of_degree}
use Rattle.words.proofs.Degrees.{listed_word, words_of_degree-falling, words_of_degree-says}
use Rattle.words.proofs.Members.{Contains-cases, Contains-first, Contains-map_cases, Contains-more, Contains-none}
use Rattle.field_table.specs.Residues.{IsFieldModulus}
use Rattle.free_poly.specs.declared.term.Term.{Term}
use Rattle.free_poly.specs.Terms.{product, total_at}
use Rattle.free_poly.specs.Poly.{lead_of}
use Rattle.free_poly.proofs.FromWords.{from_words, from_words-absent, from_words-all, from_words-polynomial, from_words-total, listed}
use Rattle.free_poly.proofs.NormalForms.{same_polynomials}
use Rattle.free_poly.proofs.Products.{UsesLetters-product}
use Rattle.free_poly.proofs.Totals.{total_at-absent}
use Rattle.linear_algebra.specs.Fields.{Field}
use Rattle.linear_algebra.specs.Spans.{sum_of, IsInSpan}
use Rattle.linear_algebra.specs.Echelon.{AreInSpan, AreSameAt, AreZeroAt, IsBasis, IsOneOf, IsReduced, done, skip, lead, from_leads}
use Rattle.linear_algebra.specs.Mod.{Residue}
use Rattle.linear_algebra.proofs.Algebra.{zero_mul_add}
use Rattle.linear_algebra.proofs.Elimination.{IsInSpan-zero_at, eliminated, leads-zero}
use Rattle.linear_algebra.proofs.ModField.{same_residue}
use Rattle.linear_algebra.proofs.Unique.{AreSameAt-trans}
use Rattle.ideal_laws.specs.Ideal.{Ideal, IsElement, IsInIdeal, IsLeadingWord}
use Rattle.ideal_laws.specs.Laws.{IsRelation, IsSetting}
use Rattle.ideal_laws.proofs.Products.{listed_product, product_listed, products}
use Rattle.ideal_laws.proofs.Vectors.{IsProductVector, ideal_from_span, span_from_ideal}
use Rattle.ideal_laws.proofs.Vectors as vectors

module _ (p : ℕ) (fm : IsFieldModulus p) where
  abbrev K : Field
  K = vectors.K p fm

  abbrev V : Type 0
  V = List ℕ → Residue p

  -- the entries as numbers
  abbrev pub entries : V → List ℕ → ℕ
  entries v w = (v w).0

  positive : 0 < p
  positive = omega (arith, fm.two_or_more)

  zero_entry : (v : V) (x : List ℕ) → v x ≡ K.zero → ((v x).0 == 0) ≡ true
  zero_entry v x e = ap (λ (n : Residue p). n.0 == 0) e ∙ ap (λ (n : ℕ). n == 0) (zero-mod p)

  -- a vector whose entry at x is the number 0 is 0 at x
  pub zero_from : (v : V) (x : List ℕ) → ((v x).0 == 0) ≡ true → v x ≡ K.zero
  zero_from v x e = same_residue p _ _ (eqb-true (v x).0 0 e ∙ sym (zero-mod p))

  -- where a vector is 1 at x, its entry there is not the number 0
  pub one_entry : (v : V) (x : List ℕ) → v x ≡ K.one → ((v x).0 == 0) ≡ false
  one_entry v x e = ap (λ (n : Residue p). n.0 == 0) e ∙ ap (λ (n : ℕ). n == 0) (mod-eq_of_lt {n = 1} {m = p} (omega (arith, fm.two_or_more)))

  -- a column at which the vector is 0 gives no term
  pub skipped : (x : List ℕ) (xs : List (List ℕ)) (v : V) → v x ≡ K.zero → from_words (x ∷ xs) (entries v) ≡ from_words xs (entries v)
  skipped x xs v e = ap (λ (b : Bool). cond b (from_words xs (entries v))
      (record { word = x; coefficient = (v x).0 } ∷ from_words xs (entries v))) (zero_entry v x e)

  -- rows that are all 0 at a column are each 0 there
  pub zero_at_member : (x : List ℕ) (es : List (List ℕ × V)) (e : List ℕ × V) → AreZeroAt K (List ℕ) x es → Contains es e → e.1 x ≡ K.zero
  zero_at_member x [] e z m = absurd (Contains-none e m)
  zero_at_member x (d ∷ es) e z m = elim (Contains-cases d es e m) [
    | inl is ↦ ap (λ (r : List ℕ × V). r.1 x) (sym is) ∙ z.0
    | inr n ↦ zero_at_member x es e z.1 n
  ]

  -- the leading word of a row is its leading column
  pub lead_of_row : (xs : List (List ℕ)) (es : List (List ℕ × V)) → IsReduced K (List ℕ) xs es → (e : List ℕ × V) → Contains es e →
      lead_of (from_words xs (entries e.1)) ≡ Some e.0
  lead_of_row xs es done e m = absurd (Contains-none e m)
  lead_of_row xs es (skip x ys es' z r) e m = ap lead_of (skipped x ys e.1 (zero_at_member x es e z m)) ∙ lead_of_row ys es r e m
  lead_of_row xs es (lead x ys v es' one z zl r) e m = elim (Contains-cases (x, v) es' e m) [
    | inl is ↦ subst (λ (d : List ℕ × V). lead_of (from_words (x ∷ ys) (entries d.1)) ≡ Some d.0) is
        (ap (λ (b : Bool). lead_of (cond b (from_words ys (entries v))
        (record { word = x; coefficient = (v x).0 } ∷ from_words ys (entries v)))) (one_entry v x one))
    | inr n ↦ ap lead_of (skipped x ys e.1 (zero_at_member x es' e z n)) ∙ lead_of_row ys es' r e n
  ]

  -- a vector that is had from the rows has its leading word among their leading columns
  pub lead_among : (xs : List (List ℕ)) (es : List (List ℕ × V)) → IsReduced K (List ℕ) xs es → (v : V) →
      AreSameAt K (List ℕ) xs v (sum_of K (List ℕ) (from_leads K (List ℕ) es v))
      → (w : List ℕ) → lead_of (from_words xs (entries v)) ≡ Some w → Contains (map (λ (e : List ℕ × V). e.0) es) w
  lead_among xs es done v s w e = cc e
  lead_among xs es (skip x ys es' z r) v s w e =
      lead_among ys es r v s.1 w (sym (ap lead_of (skipped x ys v (s.0 ∙ leads-zero K (List ℕ) x es v z))) ∙ e)
  lead_among xs es (lead x ys g es' one z zl r) v s w e = elim (cases_Bool ((v x).0 == 0)) [
    | inl none ↦
        let zero : v x ≡ K.zero = zero_from v x none in
        let without : (y : List ℕ) → sum_of K (List ℕ) (from_leads K (List ℕ) ((x, g) ∷ es') v) y ≡ sum_of K (List ℕ) (from_leads K (List ℕ) es' v) y =
        λ y. ap (λ (n : Residue p). K.add (K.mul n (g y)) (sum_of K (List ℕ) (from_leads K (List ℕ) es' v) y)) zero
        ∙ zero_mul_add K (g y) _ in
        Contains-more x (map (λ (d : List ℕ × V). d.0) es') w
        (lead_among ys es' r v (AreSameAt-trans K (List ℕ) ys v _ _ s.1 without) w (sym (ap lead_of (skipped x ys v zero)) ∙ e))
    | inr some ↦
        let is : lead_of (from_words (x ∷ ys) (entries v)) ≡ Some x =
        ap (λ (b : Bool). lead_of (cond b (from_words ys (entries v)) (record { word = x; coefficient = (v x).0 } ∷ from_words ys (entries v)))) some in
        subst (Contains (x ∷ map (λ (d : List ℕ × V). d.0) es')) (same_Some x w (sym is ∙ e)) (Contains-first x (map (λ (d : List ℕ × V). d.0) es'))
  ]

  one_of_listed : (fs : List (List Term)) (f : List Term) → Contains fs f → IsOneOf K (List ℕ) (map (vectors.vector_of p fm) fs) (vectors.vector_of p fm f)
  one_of_listed [] f m = absurd (Contains-none f m)
  one_of_listed (g ∷ fs) f m = elim (Contains-cases g fs f m) [
    | inl e ↦ inl (ap (vectors.vector_of p fm) (sym e))
    | inr n ↦ inr (one_of_listed fs f n)
  ]

  listed_one_of : (fs : List (List Term)) (v : V) → IsOneOf K (List ℕ) (map (vectors.vector_of p fm) fs) v →
      (f : List Term) × Contains fs f × (v ≡ vectors.vector_of p fm f)
  listed_one_of [] v h = absurd h
  listed_one_of (g ∷ fs) v (inl e) = (g, Contains-first g fs, e)
  listed_one_of (g ∷ fs) v (inr h) = let r = listed_one_of fs v h in (r.0, Contains-more g fs r.0 r.1, r.2)

  span_weaker : (P Q : V → Type 0) → ((v : V) → P v → Q v) → (v : V) → IsInSpan K (List ℕ) P v → IsInSpan K (List ℕ) Q v
  span_weaker P Q h v s = record { parts = s.parts; each = All-weaker (λ c. P c.1) (λ c. Q c.1) (λ c. h c.1) s.parts s.each; sum = s.sum }

module _ (ideal : Ideal) (fm : IsFieldModulus ideal.modulus) (st : IsSetting ideal) (d : ℕ) where
  abbrev Kd : Field
  Kd = K ideal.modulus fm

  abbrev Vd : Type 0
  Vd = V ideal.modulus fm

  abbrev pub columns : List (List ℕ)
  columns = words_of_degree ideal.weights d

  abbrev pub vectors_of_degree : List Vd
  vectors_of_degree = map (vectors.vector_of ideal.modulus fm) (products ideal.weights ideal.relations d)

  abbrev pub IsMemberVector : Vd → Type 0
  IsMemberVector = IsInSpan Kd (List ℕ) (IsProductVector ideal fm d)

  -- the products of a degree have reduced rows over the words of the degree
  pub found : (es : List (List ℕ × Vd)) × IsBasis Kd (List ℕ) columns vectors_of_degree es
  found = eliminated Kd (List ℕ) columns vectors_of_degree

  abbrev pub rows : List (List ℕ × Vd)
  rows = found.0

  product_vector_listed : (v : Vd) → IsProductVector ideal fm d v → IsOneOf Kd (List ℕ) vectors_of_degree v
  product_vector_listed v h =
      subst (IsOneOf Kd (List ℕ) vectors_of_degree) (sym h.is) (one_of_listed ideal.modulus fm (products ideal.weights ideal.relations d) _
      (product_listed ideal.weights st.are_weights ideal.modulus ideal.relations st.are_relations d h.multiple h.is_multiple))

  listed_product_vector : (v : Vd) → IsOneOf Kd (List ℕ) vectors_of_degree v → IsProductVector ideal fm d v
  listed_product_vector v h =
      let r = listed_one_of ideal.modulus fm (products ideal.weights ideal.relations d) v h in
      let q = listed_product ideal.weights st.are_weights ideal.modulus (positive ideal.modulus fm) ideal.relations d r.0 r.1 in
      record { multiple = q.multiple; is_multiple = q.is_multiple; is = r.2 ∙ ap (vectors.vector_of ideal.modulus fm) q.is }

  -- at the words of the degree a member is the sum of the rows, each times the member's entry at the leading column of the row
  pub had_from_rows : (v : Vd) → IsMemberVector v → AreSameAt Kd (List ℕ) columns v (sum_of Kd (List ℕ) (from_leads Kd (List ℕ) rows v))
  had_from_rows v s = found.1.coordinates v (span_weaker ideal.modulus fm _ _ product_vector_listed v s)

  in_columns : (w : List ℕ) → IsOver (length ideal.weights) w → degree_of ideal.weights w ≡ d → Contains columns w
  in_columns w over e = subst (λ (n : ℕ). Contains (words_of_degree ideal.weights n) w) e (listed_word ideal.weights st.are_weights w over)

  -- a product is 0 off the words of the degree
  product_off : (v : Vd) → IsProductVector ideal fm d v → (w : List ℕ) → (Contains columns w → ⊥) → v w ≡ Kd.zero
  product_off v h w off =
      let m = h.multiple in let i = h.is_multiple in
      let r = All-contains (IsRelation ideal.modulus ideal.weights) ideal.relations m.relation st.are_relations i.among in
      let letters = UsesLetters-product (length ideal.weights) m.left m.relation m.right i.left_over i.right_over r.letters in
      let f = product m.left m.relation m.right in
      let none : total_at f w ≡ 0 = total_at-absent f w (λ k t within e. off
      (subst (Contains columns) e (in_columns (get_or f k t).word (letters k t within) (i.degree k t within)))) in
      ap (λ (u : Vd). u w) h.is ∙ same_residue ideal.modulus _ _ (ap (λ (n : ℕ). n % ideal.modulus) none)

  -- a member is 0 off the words of the degree
  pub member_off : (v : Vd) → IsMemberVector v → (w : List ℕ) → (Contains columns w → ⊥) → v w ≡ Kd.zero
  member_off v s w off = IsInSpan-zero_at Kd (List ℕ) (IsProductVector ideal fm d) w (λ g h. product_off g h w off) v s

  abbrev pub element_from : Vd → List Term
  element_from v = from_words columns (entries ideal.modulus fm v)

  -- the element from a member has at each word the member's entry as its coefficient
  pub total_of_element : (v : Vd) → IsMemberVector v → (w : List ℕ) → total_at (element_from v) w ≡ (v w).0
  total_of_element v s w = elim (listed columns w) [
    | inl m ↦ from_words-total columns (entries ideal.modulus fm v) w (words_of_degree-falling ideal.weights st.are_weights d) m
    | inr off ↦ from_words-absent columns (entries ideal.modulus fm v) w off ∙ sym
        (ap (λ (n : Residue ideal.modulus). n.0) (member_off v s w off) ∙ zero-mod ideal.modulus)
  ]

  -- the vector of the element from a member is this member at each word
  pub vector_of_element : (v : Vd) → IsMemberVector v → (w : List ℕ) → vectors.vector_of ideal.modulus fm (element_from v) w ≡ v w
  vector_of_element v s w = same_residue ideal.modulus _ _ (ap (λ (n : ℕ). n % ideal.modulus) (total_of_element v s w) ∙ mod-eq_of_lt (v w).1)

  -- the element from a vector is an element of the degree
  pub element_form : (v : Vd) → IsElement ideal.modulus ideal.weights d (element_from v)
  element_form v = record {
    form = from_words-polynomial columns (entries ideal.modulus fm v) (words_of_degree-falling ideal.weights st.are_weights d);
    residues = from_words-all (λ t. t.coefficient < ideal.modulus) columns (entries ideal.modulus fm v) (λ x m ne. (v x).1);
    letters = from_words-all (λ t. IsOver (length ideal.weights) t.word) columns (entries ideal.modulus fm v)
        (λ x m ne. (words_of_degree-says ideal.weights st.are_weights d x m).0);
    degree = from_words-all (λ t. degree_of ideal.weights t.word ≡ d) columns (entries ideal.modulus fm v)
        (λ x m ne. (words_of_degree-says ideal.weights st.are_weights d x m).1);
  }

  -- the element from a member is in the ideal
  pub element_inside : (v : Vd) → IsMemberVector v → IsInIdeal ideal d (element_from v)
  element_inside v s = ideal_from_span ideal fm d (element_from v) (element_form v)
      (record { parts = s.parts; each = s.each; sum = λ w. vector_of_element v s w ∙ s.sum w })

  -- a member is the element of its vector
  pub member_is : (f : List Term) → IsInIdeal ideal d f → f ≡ element_from (vectors.vector_of ideal.modulus fm f)
  member_is f i =
      let v = vectors.vector_of ideal.modulus fm f in let e = element_form v in
      same_polynomials ideal.modulus f (element_from v) i.element.form e.form i.element.residues e.residues
      (λ w. sym (ap (λ (n : ℕ). n % ideal.modulus) (total_of_element v (span_from_ideal ideal fm d f i) w) ∙ mod-mod (total_at f w) ideal.modulus))

  row_inside : (gs : List Vd) (es : List (List ℕ × Vd)) → AreInSpan Kd (List ℕ) gs es → (e : List ℕ × Vd) → Contains es e →
      IsInSpan Kd (List ℕ) (IsOneOf Kd (List ℕ) gs) e.1
  row_inside gs [] h e m = absurd (Contains-none e m)
  row_inside gs (c ∷ es) h e m = elim (Contains-cases c es e m) [
    | inl is ↦ subst (λ (r : List ℕ × Vd). IsInSpan Kd (List ℕ) (IsOneOf Kd (List ℕ) gs) r.1) is h.0
    | inr n ↦ row_inside gs es h.1 e n
  ]

  -- each row is a member
  pub row_member : (e : List ℕ × Vd) → Contains rows e → IsMemberVector e.1
  row_member e m = span_weaker ideal.modulus fm _ _ listed_product_vector e.1 (row_inside vectors_of_degree rows found.1.inside e m)

  abbrev pub leading_words : List (List ℕ)
  leading_words = map (λ (e : List ℕ × Vd). e.0) rows

  -- each leading word of the degree is the leading column of a row
  pub leading_listed : (w : List ℕ) → IsLeadingWord ideal d w → Contains leading_words w
  leading_listed w l =
      let v = vectors.vector_of ideal.modulus fm l.member in
      lead_among ideal.modulus fm columns rows found.1.reduced v (had_from_rows v (span_from_ideal ideal fm d l.member l.inside)) w
      (ap lead_of (sym (member_is l.member l.inside)) ∙ l.lead)

  -- the element from a row has the leading column of the row as its leading word
  pub row_leads : (e : List ℕ × Vd) → Contains rows e → lead_of (element_from e.1) ≡ Some e.0
  row_leads e m = lead_of_row ideal.modulus fm columns rows found.1.reduced e m

  -- the leading column of a row is a leading word of the degree
  pub listed_leading : (w : List ℕ) → Contains leading_words w → IsLeadingWord ideal d w
  listed_leading w h =
      let r = Contains-map_cases (λ (e : List ℕ × Vd). e.0) rows w h in
      record { member = element_from r.0.1; inside = element_inside r.0.1 (row_member r.0 r.1); lead = row_leads r.0 r.1 ∙ ap Some r.2 }

  -- a word is a leading word or not
  pub is_leading : (w : List ℕ) → IsLeadingWord ideal d w ⊎ (IsLeadingWord ideal d w → ⊥)
  is_leading w = elim (listed leading_words w) [
    | inl m ↦ inl (listed_leading w m)
    | inr none ↦ inr (λ l. none (leading_listed w l))
  ]
