-- Each normal leading word of a degree is the word of a leading column of the echelon form.
use Rattle.std.proofs.Common.{◌≡◌, ◌⊎◌, ◌%◌, ◌<◌, ℕ, List, [], ◌∷◌, length, get_or, refl, sym, ap, ◌∙◌, inl, inr, arith, AllPairs, Option, Some, subst}
use Rattle.std.specs.List.{Contains}
use Rattle.std.proofs.lemmas.List.{get_or_default}
use Rattle.std.proofs.lemmas.List.Elements.{All-head}
use Rattle.words.specs.Words.{IsOver, degree_of, words_of_degree}
use Rattle.words.specs.Order.{IsLetterwiseGreater}
use Rattle.words.proofs.Members.{Contains-first}
use Rattle.free_poly.specs.declared.term.Term.{Term}
use Rattle.free_poly.specs.Poly.{lead_of}
use Rattle.free_poly.proofs.FromWords.{listed}
use Rattle.free_poly.proofs.NormalForms.{above_lead}
use Rattle.linear_algebra.specs.Fields.{Field}
use Rattle.linear_algebra.specs.Mod.{Residue}
use Rattle.linear_algebra.proofs.Algebra.{zero_add}
use Rattle.linear_algebra.proofs.ModField.{same_residue}
use Rattle.ideal_laws.specs.Ideal.{Ideal, IsInIdeal, IsLeadingWord}
use Rattle.ideal_laws.specs.Closure.{IsNormal}
use Rattle.ideal_laws.specs.Laws.{IsSetting}
use Rattle.ideal_laws.specs.Overlaps.{AreLower}
use Rattle.ideal_laws.specs.Quantities.{AreClosed, contested_words}
use Rattle.ideal_laws.proofs.Vectors as vectors
use Rattle.back_reduce.specs.Rref.{IsRref}
use Rattle.row_laws.specs.Contested.{AreContestedRows}
use Rattle.row_laws.proofs.ClosedColumns.{contested_falling, in_degree}
use Rattle.row_laws.proofs.ContestedRows.{zero_at_reducible}
use Rattle.row_laws.proofs.DegreeRows.{term_there}
use Rattle.row_laws.proofs.Leaders.{IsLedBy, first_leads}
use Rattle.row_laws.proofs.Mixtures.{ideal_mixed}
use Rattle.row_laws.proofs.Spread.{spread, spread-absent, spread-at}
use Rattle.row_laws.proofs.Triangle.{zero_from_normal}

module _ (ideal : Ideal) (st : IsSetting ideal) (d : ℕ) (G : List (List Term)) (lower : AreLower ideal d G)
    (rows : List (List Term)) (columns : List (List ℕ)) (reducers : List (Option (List Term)))
    (closed : AreClosed ideal G d rows columns reducers)
    (cells : List (List ℕ)) (are_cells : AreContestedRows ideal.modulus columns reducers rows cells) (echelon : List (List ℕ))
    (rref : IsRref ideal.modulus (length (contested_words columns reducers)) cells echelon) where
  abbrev K : Field
  K = vectors.K ideal.modulus st.modulus

  abbrev contested : List (List ℕ)
  contested = contested_words columns reducers

  abbrev N : Type 0
  N = ℕ → Residue ideal.modulus

  abbrev onto : N → List ℕ → Residue ideal.modulus
  onto e = spread ideal.modulus st.modulus contested e

  falling : AllPairs IsLetterwiseGreater contested
  falling = contested_falling columns reducers closed.are_columns.falling

  entry_at : (e : N) (k : ℕ) (w : List ℕ) → k < length contested → get_or contested k [] ≡ w → e k ≡ onto e w
  entry_at e k w lt word = sym (spread-at ideal.modulus st.modulus contested e k falling lt) ∙ ap (onto e) word

  same_word : (i k : ℕ) (w : List ℕ) → i ≡ k → get_or contested k [] ≡ w → get_or contested i [] ≡ w
  same_word i k w e word = ap (λ (n : ℕ). get_or contested n []) e ∙ word

  -- a normal leading word of degree d is the word of a leading column of the form: above it the member that it leads is 0, so the
  -- member's sum of reducers is, and the rest leads at the word
  pub normal_led : (w : List ℕ) → IsLeadingWord ideal d w → IsNormal G w → IsLedBy ideal.modulus (length contested) st.modulus cells echelon rref contested w
  normal_led w l normal = by_first l.member l.inside l.lead
    where
      by_first : (f : List Term) → IsInIdeal ideal d f → lead_of f ≡ Some w → IsLedBy ideal.modulus (length contested) st.modulus cells echelon rref contested w
      by_first [] i e = cc e
      by_first (t ∷ f) i e =
          let is : t.word ≡ w = cc e in
          let v = vectors.vector_of ideal.modulus st.modulus (t ∷ f) in
          let h = ideal_mixed ideal st d G lower rows columns reducers closed cells are_cells (t ∷ f) i in
          let there : Contains (words_of_degree ideal.weights d) w = subst (Contains (words_of_degree ideal.weights d)) is
          (in_degree ideal st d G lower t.word (All-head (λ (s : Term). IsOver (length ideal.weights) s.word) t f i.element.letters)
          (All-head (λ (s : Term). degree_of ideal.weights s.word ≡ d) t f i.element.degree)) in
          let above : (y : List ℕ) → IsLetterwiseGreater y w → v y ≡ K.zero =
          λ y g. same_residue ideal.modulus _ _ (ap (λ (n : ℕ). n % ideal.modulus) (above_lead (t ∷ f) w y i.element.form e g)) in
          let rest_zero : (y : List ℕ) → ((y ≡ w) ⊎ IsLetterwiseGreater y w) → h.rest y ≡ K.zero =
          zero_from_normal ideal st d G lower h.rest h.spanned w there normal
          (λ x g r greater. sym (h.sum x ∙ ap (λ (n : Residue ideal.modulus). K.add n (h.rest x))
          (zero_at_reducible ideal st d G lower rows columns reducers closed h.entries x g r) ∙ zero_add K (h.rest x))
          ∙ above x greater) in
          let same : (y : List ℕ) → ((y ≡ w) ⊎ IsLetterwiseGreater y w) → onto h.entries y ≡ v y = λ y from.
          sym (h.sum y ∙ ap (K.add (onto h.entries y)) (rest_zero y from) ∙ K.add_zero (onto h.entries y)) in
          let some : onto h.entries w ≡ K.zero → ⊥ = λ none.
          term_there ideal.modulus st.modulus (t ∷ f) i.element.form i.element.residues t (Contains-first t f)
          (ap v {x = t.word} is ∙ sym (same w (inl refl)) ∙ none) in
          elim (listed contested w) [
            | inr off ↦ absurd (some (spread-absent ideal.modulus st.modulus contested h.entries w off))
            | inl m ↦
                let k = m.0 in
                let word : get_or contested k [] ≡ w = get_or_default contested k [] w m.1 ∙ m.2 in
                let q = first_leads ideal.modulus (length contested) st.modulus cells echelon rref h.entries h.combined k m.1
                (λ none. some (sym (entry_at h.entries k w m.1 word) ∙ none))
                (λ j lt.
                let greater : IsLetterwiseGreater (get_or contested j []) w =
                subst (IsLetterwiseGreater (get_or contested j [])) word (falling j k [] lt m.1) in
                entry_at h.entries j (get_or contested j []) (omega (arith, lt, m.1)) refl ∙ same (get_or contested j []) (inr greater)
                ∙ above (get_or contested j []) greater) in
                record { row = q.0; among = q.1; word = same_word q.0.0 k w q.2 word }
          ]
