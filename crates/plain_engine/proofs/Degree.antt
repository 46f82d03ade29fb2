-- The elements of the echelon form of all products are the reduced basis of the degree.
use Rattle.std.proofs.Common.{◌≡◌, ◌+◌, ◌%◌, ◌<◌, ℕ, List, [], ◌∷◌, length, get_or, sym, ap, ◌∙◌, arith, AllPairs}
use Rattle.std.proofs.Common.{Some, subst}
use Rattle.std.proofs.lemmas.List.{get_or_default}
use Rattle.std.proofs.lemmas.List.Elements.{All-head}
use Rattle.words.specs.Words.{IsOver, degree_of, words_of_degree}
use Rattle.words.proofs.Degrees.{words_of_degree-falling}
use Rattle.words.specs.Order.{IsLetterwiseGreater}
use Rattle.words.proofs.Members.{Contains-first}
use Rattle.free_poly.specs.declared.term.Term.{Term}
use Rattle.free_poly.specs.Poly.{lead_of}
use Rattle.free_poly.proofs.NormalForms.{above_lead}
use Rattle.linear_algebra.specs.Mod.{Residue}
use Rattle.linear_algebra.proofs.ModField.{same_residue}
use Rattle.ideal_laws.specs.Basis.{IsReduced, IsReducedBasis}
use Rattle.ideal_laws.specs.Closure.{IsNormal}
use Rattle.ideal_laws.specs.Ideal.{Ideal, IsInIdeal, IsLeadingWord}
use Rattle.ideal_laws.specs.Laws.{IsSetting}
use Rattle.ideal_laws.specs.Overlaps.{AreLower}
use Rattle.ideal_laws.proofs.Vectors.{span_from_ideal}
use Rattle.ideal_laws.proofs.Vectors as vectors
use Rattle.back_reduce.specs.Entries.{IsLead}
use Rattle.back_reduce.specs.Rows.{IsInRowSpan}
use Rattle.back_reduce.specs.Rref.{IsRref}
use Rattle.row_laws.proofs.DegreeRows.{IsMember, term_there}
use Rattle.row_laws.proofs.Leaders.{IsLedBy, first_leads, none_before, one_there}
use Rattle.row_laws.proofs.ReducedRows.{IsLedRow, led_of, reduced_of_row, row_is_reduced, rows_fall}
use Rattle.row_laws.proofs.Spread.{spread-at}
use Rattle.degree_words.specs.Lists.{AreLists}
use Rattle.plain_engine.specs.Elements.{AreElements}
use Rattle.plain_engine.proofs.Chosen.{lead_one}
use Rattle.plain_engine.proofs.ProductRows as products

module _ (ideal : Ideal) (st : IsSetting ideal) (d : ℕ) (lists : List (List (List ℕ))) (al : AreLists ideal.weights d lists (d + 1)) (echelon : List (List ℕ))
    (rref : IsRref ideal.modulus (length (words_of_degree ideal.weights d)) (products.all_rows ideal st d lists al) echelon) where
  abbrev ws : List (List ℕ)
  ws = words_of_degree ideal.weights d

  abbrev rows : List (List ℕ)
  rows = products.all_rows ideal st d lists al

  abbrev m : ℕ
  m = length ws

  abbrev N : Type 0
  N = ℕ → Residue ideal.modulus

  abbrev onto : N → List ℕ → Residue ideal.modulus
  onto = products.onto ideal st d lists al

  falling : AllPairs IsLetterwiseGreater ws
  falling = words_of_degree-falling ideal.weights st.are_weights d

  -- each leading word is that of a row
  leading_led : (w : List ℕ) → IsLeadingWord ideal d w → IsLedBy ideal.modulus m st.modulus rows echelon rref ws w
  leading_led w l = by_first l.member l.inside l.lead
    where
      by_first : (f : List Term) → IsInIdeal ideal d f → lead_of f ≡ Some w → IsLedBy ideal.modulus m st.modulus rows echelon rref ws w
      by_first [] i e = cc e
      by_first (t ∷ f) i e =
          let is : t.word ≡ w = cc e in
          let v = vectors.vector_of ideal.modulus st.modulus (t ∷ f) in
          let h = products.member_combined ideal st d lists al v (span_from_ideal ideal st.modulus d (t ∷ f) i) in
          let there = products.in_columns ideal st d lists al t.word (All-head (λ (s : Term). IsOver (length ideal.weights) s.word) t f i.element.letters)
          (All-head (λ (s : Term). degree_of ideal.weights s.word ≡ d) t f i.element.degree) in
          let k = there.0 in
          let word : get_or ws k [] ≡ t.word = get_or_default ws k [] t.word there.1 ∙ there.2 in
          let entry : (j : ℕ) → j < m → h.entries j ≡ v (get_or ws j []) =
          λ j lt. sym (h.same (get_or ws j []) ∙ spread-at ideal.modulus st.modulus ws h.entries j falling lt) in
          let q = first_leads ideal.modulus m st.modulus rows echelon rref h.entries h.inside k there.1
          (λ none. term_there ideal.modulus st.modulus (t ∷ f) i.element.form i.element.residues t (Contains-first t f)
          (ap v (sym word) ∙ sym (entry k there.1) ∙ none))
          (λ j lt. entry j (omega (arith, lt, there.1)) ∙ same_residue ideal.modulus _ _ (ap (λ (n : ℕ). n % ideal.modulus)
          (above_lead (t ∷ f) w (get_or ws j []) i.element.form e
          (subst (IsLetterwiseGreater (get_or ws j [])) (word ∙ is) (falling j k [] lt there.1))))) in
          record { row = q.0; among = q.1; word = ap (λ (n : ℕ). get_or ws n []) q.2 ∙ word ∙ is }

  members : (u : N) → IsInRowSpan ideal.modulus st.modulus rows u → IsMember ideal st d (onto u)
  members = products.combined_member ideal st d lists al

  -- a row leads at its leading column
  lead_at : (l : ℕ) (r : List ℕ) → IsLedRow ideal st d ws falling rows echelon rref members l r → IsLead r l
  lead_at l r h = record {
    within = omega (arith, h.within, h.is_row.size);
    other = λ none. omega (arith, none, one_there ideal.modulus m st.modulus rows echelon rref l r h.among h.is_row);
    before = none_before ideal.modulus m st.modulus rows echelon rref l r h.among h.is_row;
  }

  module _ (G : List (List Term)) (lower : AreLower ideal d G) where
    -- the elements of those rows of the echelon form that have a normal leading word are the reduced basis of the degree
    pub basis_from_elements : (elements : List (List Term)) → AreElements ws G echelon elements → IsReducedBasis ideal d elements
    basis_from_elements elements are = record {
      exactly = λ f. (
        (λ k.
            let q = (are.exactly f).0 k in
            let l = led_of ideal st d ws falling rows echelon rref members q.0 q.1 in
            subst (IsReduced ideal d) (sym q.3) (row_is_reduced ideal st d ws falling rows echelon rref members G lower (λ w m l. leading_led w l)
            (λ w l n. leading_led w l) l.0 q.0 l.1 (q.2 l.0 (lead_at l.0 q.0 l.1)))),
        (λ h.
            let q = reduced_of_row ideal st d ws falling rows echelon rref members G lower (λ w m l. leading_led w l) (λ w l n. leading_led w l) f h in
            (are.exactly f).1 (
              q.row,
              q.listed,
              (λ c lead. subst (λ (i : ℕ). IsNormal G (get_or ws i [])) (lead_one q.row q.lead c (lead_at q.lead q.row q.led) lead) q.normal_lead),
              q.is,
            )),
      );
      falling = are.falling (rows_fall ideal st d ws falling rows echelon rref members);
    }
