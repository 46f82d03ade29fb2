-- The element of a row of an echelon form is reduced, where the combinations of the rows are members of the degree, and
-- each leading word among the columns is that of a row.
use Rattle.std.proofs.Common.{◌≡◌, ◌≢◌, ◌%◌, ◌<◌, ℕ, List, [], ◌∷◌, length, get_or, sym, ap, ◌∙◌, All, AllPairs, Some, subst}
use Rattle.std.specs.List.{Contains}
use Rattle.std.proofs.Math.Nat.{mod-mod}
use Rattle.std.proofs.lemmas.List.Elements.{All-contains, All-head, Contains-get_or}
use Rattle.words.specs.Words.{IsOver, IsProperFactor, degree_of}
use Rattle.words.specs.Order.{IsLetterwiseGreater}
use Rattle.words.proofs.Members.{AllPairs-first, All-from_members, Contains-more}
use Rattle.free_poly.specs.declared.term.Term.{Term}
use Rattle.free_poly.specs.Poly.{IsMonic, IsPolynomial, lead_of, element_on}
use Rattle.free_poly.proofs.NormalForms.{same_polynomials}
use Rattle.free_poly.proofs.Totals.{letterwise-apart}
use Rattle.linear_algebra.specs.Mod.{Residue}
use Rattle.linear_algebra.proofs.Elimination.{same_span}
use Rattle.ideal_laws.specs.Ideal.{Ideal, IsInIdeal, IsLeadingWord, IsMinimal}
use Rattle.ideal_laws.specs.Basis.{IsReduced, below_lead}
use Rattle.ideal_laws.specs.Laws.{IsSetting}
use Rattle.ideal_laws.proofs.Leads.{element_form, element_from, element_inside, total_of_element}
use Rattle.ideal_laws.proofs.Vectors as vectors
use Rattle.back_reduce.specs.Rows.{IsInRowSpan, IsRow}
use Rattle.back_reduce.specs.Rref.{IsRref}
use Rattle.row_laws.proofs.DegreeRows.{IsMember, term_there}
use Rattle.row_laws.proofs.Leaders.{IsLedBy, lead_within, led_rows, none_before, one_there, row_combined, row_vector, zero_at_others}
use Rattle.row_laws.proofs.OnColumns.{element_on-all, element_on-first, element_on-polynomial, element_on-residues}
use Rattle.row_laws.proofs.Spread.{spread, spread-at, spread-element}
use Rattle.std.proofs.lemmas.Option.{same_Some}

-- what holds of each term but the first
below_all : (P : Term → Type 0) (f : List Term) (w : List ℕ) → lead_of f ≡ Some w → IsPolynomial f →
    ((t : Term) → Contains f t → t.word ≢ w → P t) → All P (below_lead f)
below_all P [] w e h q = cc e
below_all P (t ∷ f) w e h q =
    let is : t.word ≡ w = cc e in
    All-from_members P f (λ s m. q s (Contains-more t f s m) (λ same.
    letterwise-apart t.word s.word (All-contains (λ s. IsLetterwiseGreater t.word s.word) f s
    (AllPairs-first (λ s t. IsLetterwiseGreater s.word t.word) t f h.falling) m) (is ∙ sym same)))

module _ (ideal : Ideal) (st : IsSetting ideal) (d : ℕ) (columns : List (List ℕ)) (falling : AllPairs IsLetterwiseGreater columns)
    (cells echelon : List (List ℕ)) (rref : IsRref ideal.modulus (length columns) cells echelon)
    (members : (u : ℕ → Residue ideal.modulus) → IsInRowSpan ideal.modulus st.modulus cells u →
    IsMember ideal st d (spread ideal.modulus st.modulus columns u)) where
  abbrev m : ℕ
  m = length columns

  abbrev vec : List ℕ → ℕ → Residue ideal.modulus
  vec r = row_vector ideal.modulus m st.modulus cells echelon rref r

  module _ (l : ℕ) (r : List ℕ) (n : Contains (led_rows ideal.modulus m st.modulus cells echelon rref) (l, vec r)) (is_row : IsRow ideal.modulus m r) where
    abbrev f : List Term
    f = element_on columns r

    abbrev w : List ℕ
    w = get_or columns l []

    within : l < m
    within = lead_within ideal.modulus m st.modulus cells echelon rref (l, vec r) n

    firsts : (lead_of f ≡ Some w) × IsMonic f
    firsts = element_on-first columns r l within (none_before ideal.modulus m st.modulus cells echelon rref l r n is_row)
        (one_there ideal.modulus m st.modulus cells echelon rref l r n is_row)

    -- the leading word of the row's element is the word of its leading column
    pub row_lead : lead_of f ≡ Some w
    row_lead = firsts.0

    form : IsPolynomial f
    form = element_on-polynomial columns r falling

    residues : All (λ t. t.coefficient < ideal.modulus) f
    residues = element_on-residues ideal.modulus columns r is_row.residues

    vector_is : (y : List ℕ) → vectors.vector_of ideal.modulus st.modulus f y ≡ spread ideal.modulus st.modulus columns (vec r) y
    vector_is = spread-element ideal.modulus st.modulus columns r

    member : IsMember ideal st d (vectors.vector_of ideal.modulus st.modulus f)
    member = same_span _ (List ℕ) _ (spread ideal.modulus st.modulus columns (vec r)) (vectors.vector_of ideal.modulus st.modulus f)
        (λ y. sym (vector_is y))
        (members (vec r) (row_combined ideal.modulus m st.modulus cells echelon rref (l, vec r) n))

    inside : IsInIdeal ideal d f
    inside =
        let v = vectors.vector_of ideal.modulus st.modulus f in
        let e = element_form ideal st.modulus st d v in
        let is : f ≡ element_from ideal st.modulus st d v =
        same_polynomials ideal.modulus f (element_from ideal st.modulus st d v) form e.form residues e.residues
        (λ y. sym (ap (λ (k : ℕ). k % ideal.modulus) (total_of_element ideal st.modulus st d v member y) ∙ mod-mod _ ideal.modulus)) in
        subst (IsInIdeal ideal d) (sym is) (element_inside ideal st.modulus st d v member)

    -- its leading word is one of the degree
    pub lead_says : IsOver (length ideal.weights) w × (degree_of ideal.weights w ≡ d)
    lead_says = by_first f firsts.0 inside
      where
        by_first : (g : List Term) → lead_of g ≡ Some w → IsInIdeal ideal d g → IsOver (length ideal.weights) w × (degree_of ideal.weights w ≡ d)
        by_first [] e i = cc e
        by_first (t ∷ g) e i =
            let is : t.word ≡ w = cc e in (
              subst (IsOver (length ideal.weights)) is (All-head (λ (s : Term). IsOver (length ideal.weights) s.word) t g i.element.letters),
              ap (degree_of ideal.weights) (sym is) ∙ All-head (λ (s : Term). degree_of ideal.weights s.word ≡ d) t g i.element.degree,
            )

    module _ (leads : (x : List ℕ) → Contains columns x → IsLeadingWord ideal d x → IsLedBy ideal.modulus m st.modulus cells echelon rref columns x) where
      -- a word of it that is another leading word is that of another row, where this one is 0
      others : All (λ t. IsLeadingWord ideal d t.word → ⊥) (below_lead f)
      others = below_all (λ t. IsLeadingWord ideal d t.word → ⊥) f w firsts.0 form (λ t k ne lt.
          let there = All-contains (λ (s : Term). Contains columns s.word) f t
          (element_on-all (λ (s : Term). Contains columns s.word) columns r (λ i low high some. Contains-get_or columns i [] low))
          k in
          let q = leads t.word there lt in
          let apart : q.row.0 ≢ l = λ same. ne (sym q.word ∙ ap (λ (i : ℕ). get_or columns i []) same) in
          term_there ideal.modulus st.modulus f form residues t k
          (vector_is t.word ∙ ap (spread ideal.modulus st.modulus columns (vec r)) (sym q.word)
          ∙ spread-at ideal.modulus st.modulus columns (vec r) q.row.0 falling (lead_within ideal.modulus m st.modulus cells echelon rref q.row q.among)
          ∙ zero_at_others ideal.modulus m st.modulus cells echelon rref (l, vec r) q.row n q.among apart))

      -- the row's element is reduced where no proper factor of its leading word is a leading word
      pub row_reduced : ((v : List ℕ) → IsProperFactor v w → IsLeadingWord ideal (degree_of ideal.weights v) v → ⊥) → IsReduced ideal d f
      row_reduced none_inside = record {
        inside = inside;
        monic = firsts.1;
        minimal = λ x e. subst (IsMinimal ideal) (same_Some w x (sym firsts.0 ∙ e)) (record {
          leading = subst (λ (i : ℕ). IsLeadingWord ideal i w) (sym lead_says.1) (record { member = f; inside = inside; lead = firsts.0 });
          none_inside = none_inside;
        });
        others = others;
      }
