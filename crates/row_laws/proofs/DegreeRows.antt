-- The rows of a degree are polynomials of the ideal with residues, and they have all generators but the reducers.
use Rattle.std.proofs.Common.{◌≡◌, ◌≢◌, ◌%◌, ◌<◌, ℕ, List, [], ◌∷◌, refl, sym, ap, ap₂, ◌∙◌, inl, inr, subst}
use Rattle.std.proofs.Common.{Some}
use Rattle.std.specs.List.{Contains, slice_get}
use Rattle.std.proofs.Math.Nat.{mod-eq_of_lt, zero-mod}
use Rattle.std.proofs.lemmas.List.Elements.{All-cons, All-contains, All-head, All-weaker, Contains-append_cases, Contains-append_left}
use Rattle.std.proofs.lemmas.List.Elements.{Contains-append_right}
use Rattle.std.proofs.lemmas.Option.{get_or_from_slice_get, slice_get_within}
use Rattle.words.specs.Words.{degree_of, words_of_degree}
use Rattle.words.proofs.Members.{AllPairs-first}
use Rattle.field_table.specs.Residues.{IsFieldModulus}
use Rattle.free_poly.specs.declared.term.Term.{Term}
use Rattle.free_poly.specs.Terms.{HasDegree, HasOneDegree, HasResidues, total_at}
use Rattle.free_poly.specs.Poly.{IsPolynomial}
use Rattle.free_poly.proofs.FromWords.{listed}
use Rattle.free_poly.proofs.Totals.{AreApart-from_polynomial, total_at-found}
use Rattle.linear_algebra.specs.Mod.{Residue}
use Rattle.linear_algebra.proofs.Elimination.{same_span}
use Rattle.ideal_laws.specs.Closure.{IsObstruction, Overlap, obstruction_row}
use Rattle.ideal_laws.specs.Engine.{of_degree}
use Rattle.ideal_laws.specs.Ideal.{Ideal}
use Rattle.ideal_laws.specs.Kept.{lead_degree}
use Rattle.ideal_laws.specs.Laws.{IsRelation, IsSetting, relation}
use Rattle.ideal_laws.specs.Overlaps.{AreLower}
use Rattle.ideal_laws.specs.Quantities.{AreRows, IsRowOf}
use Rattle.ideal_laws.proofs.Differ.{obstruction_member}
use Rattle.ideal_laws.proofs.Leads.{IsMemberVector, member_off}
use Rattle.ideal_laws.proofs.Lower.{of_degree-has, of_degree-says}
use Rattle.ideal_laws.proofs.Neighbours.{neighbour_inside}
use Rattle.ideal_laws.proofs.Represented.{IsLower}
use Rattle.ideal_laws.proofs.Vectors.{same_vectors, span_from_ideal}
use Rattle.ideal_laws.proofs.Vectors as vectors
use Rattle.back_reduce.proofs.Beside.{beside_left, beside_right}
use Rattle.ideal_laws.proofs.OneQuantity.{some_one}

-- a polynomial of one degree has that of its leading word
whole_degree : (weights : List ℕ) (d : ℕ) (g : List Term) → HasOneDegree weights g → g ≢ [] → lead_degree weights g ≡ d → HasDegree weights d g
whole_degree weights d [] one other e = absurd (other refl)
whole_degree weights d (t ∷ f) one other e = All-cons (λ s. degree_of weights s.word ≡ d) t f e
    (All-weaker (λ s. degree_of weights t.word ≡ degree_of weights s.word) (λ s. degree_of weights s.word ≡ d) (λ s q. sym q ∙ e) f
    (AllPairs-first (λ s t. degree_of weights s.word ≡ degree_of weights t.word) t f one))

-- and its leading word has the degree of all of them
first_degree : (weights : List ℕ) (d : ℕ) (g : List Term) → g ≢ [] → HasDegree weights d g → lead_degree weights g ≡ d
first_degree weights d [] other e = absurd (other refl)
first_degree weights d (t ∷ f) other e = All-head (λ s. degree_of weights s.word ≡ d) t f e

-- at the word of a term a polynomial with residues is not 0
pub term_there : (p : ℕ) (fm : IsFieldModulus p) (f : List Term) → IsPolynomial f → HasResidues p f → (t : Term) → Contains f t →
    vectors.vector_of p fm f t.word ≡ (vectors.K p fm).zero → ⊥
term_there p fm f form residues t m gone =
    let found : total_at f t.word ≡ t.coefficient = total_at-found f m.0 t t.word (AreApart-from_polynomial f form) m.1
    (ap (λ (s : Term). s.word) m.2) ∙ ap (λ (s : Term). s.coefficient) m.2 in
    let small : t.coefficient < p = All-contains (λ s. s.coefficient < p) f t residues m in
    All-contains (λ s. s.coefficient ≢ 0) f t form.nonzero m
    (sym (mod-eq_of_lt small) ∙ ap (λ (n : ℕ). n % p) (sym found) ∙ ap (λ (r : Residue p). r.0) gone ∙ zero-mod p)

module _ (ideal : Ideal) (st : IsSetting ideal) (d : ℕ) where
  abbrev vec : List Term → List ℕ → Residue ideal.modulus
  vec f = vectors.vector_of ideal.modulus st.modulus f

  abbrev pub IsMember : (List ℕ → Residue ideal.modulus) → Type 0
  IsMember = IsMemberVector ideal st.modulus st d

  -- a polynomial with residues whose vector is a member
  pub record IsMemberRow (f : List Term) : Type 0 where
    pub form : IsPolynomial f
    pub residues : HasResidues ideal.modulus f
    pub member : IsMember (vec f)

  -- its words have the degree
  pub member_word : (f : List Term) → IsMemberRow f → (t : Term) → Contains f t → Contains (words_of_degree ideal.weights d) t.word
  member_word f h t m = elim (listed (words_of_degree ideal.weights d) t.word) [
    | inl there ↦ there
    | inr off ↦ absurd (term_there ideal.modulus st.modulus f h.form h.residues t m (member_off ideal st.modulus st d (vec f) h.member t.word off))
  ]

  module _ (G : List (List Term)) (lower : AreLower ideal d G) where
    lower_at : (i : ℕ) (g : List Term) → slice_get G i ≡ Some g → IsLower ideal st d g
    lower_at i g e = let h = (lower g).0 (i, slice_get_within G i g e, get_or_from_slice_get G i g g e) in record { degree = h.0; below = h.1; reduced = h.2 }

    module _ (rows : List (List Term)) (are : AreRows ideal G d rows) where
      -- each row of the degree is a polynomial with residues that is a member of the degree
      pub row_member : (f : List Term) → Contains rows f → IsMemberRow f
      row_member f m = elim (Contains-append_cases (of_degree ideal.weights d ideal.relations) are.overlap_rows f
          (subst (λ (fs : List (List Term)). Contains fs f) are.joined m)) [
            | inl n ↦
                let r = of_degree-says ideal.weights d ideal.relations f n in
                let h = All-contains (IsRelation ideal.modulus ideal.weights) ideal.relations f st.are_relations r.0 in
                record {
                  form = h.form;
                  residues = h.residues;
                  member = span_from_ideal ideal st.modulus d f
                      (neighbour_inside ideal st d f (relation f r.0 (whole_degree ideal.weights d f h.one_degree h.other r.1)));
                }
            | inr n ↦
                let b = beside_right (IsRowOf ideal.modulus ideal.weights G d) are.overlaps are.overlap_rows f are.each n in
                let h = b.1.related in
                let o = h.obstruction in
                let member = subst (λ (e : ℕ). IsMemberVector ideal st.modulus st e
                (vec (obstruction_row ideal.modulus o.first b.0.behind b.0.before o.second))) o.degree
                (obstruction_member ideal st d o.first o.second (lower_at b.0.left o.first o.at_left)
                (lower_at b.0.right o.second o.at_right) b.0.before b.0.shared b.0.behind o.first_lead o.second_lead o.some_before
                o.some_shared o.some_behind) in
                record {
                  form = h.form;
                  residues = h.residues;
                  member = same_span _ (List ℕ) _ (vec (obstruction_row ideal.modulus o.first b.0.behind b.0.before o.second)) (vec f)
                      (λ w. sym (same_vectors ideal.modulus st.modulus f (obstruction_row ideal.modulus o.first b.0.behind b.0.before o.second) h.same w))
                      member;
                }
          ]

      -- a relation of the degree is a row
      pub relation_row : (r : List Term) → Contains ideal.relations r → HasDegree ideal.weights d r → Contains rows r
      relation_row r m h =
          let other = (All-contains (IsRelation ideal.modulus ideal.weights) ideal.relations r st.are_relations m).other in
          subst (λ (fs : List (List Term)). Contains fs r) (sym are.joined)
          (Contains-append_left (of_degree ideal.weights d ideal.relations) are.overlap_rows r (of_degree-has ideal.weights d ideal.relations r m other
          (first_degree ideal.weights d r other h)))

      -- an obstruction has a row, which is its polynomial
      pub obstruction_has : (left right : ℕ) (a c b : List ℕ) (o : IsObstruction ideal.weights G d left right a c b)
          → (f : List Term) × Contains rows f × ((w : List ℕ) → vec f w ≡ vec (obstruction_row ideal.modulus o.first b a o.second) w)
      obstruction_has left right a c b o =
          let overlap : Overlap = record { left = left; right = right; before = a; shared = c; behind = b } in
          let q = beside_left (IsRowOf ideal.modulus ideal.weights G d) are.overlaps are.overlap_rows overlap are.each
          ((are.are_obstructions.exactly overlap).1 o) in
          let h = q.1.related in
          let first : h.obstruction.first ≡ o.first = some_one (slice_get G left) h.obstruction.first o.first h.obstruction.at_left o.at_left in
          let second : h.obstruction.second ≡ o.second = some_one (slice_get G right) h.obstruction.second o.second h.obstruction.at_right o.at_right in (
            q.0,
            subst (λ (fs : List (List Term)). Contains fs q.0) (sym are.joined)
                (Contains-append_right (of_degree ideal.weights d ideal.relations) are.overlap_rows q.0 q.1.right),
            λ w. same_vectors ideal.modulus st.modulus q.0 (obstruction_row ideal.modulus h.obstruction.first b a h.obstruction.second) h.same w
                ∙ ap₂ (λ (x y : List Term). vec (obstruction_row ideal.modulus x b a y) w) first second,
          )
