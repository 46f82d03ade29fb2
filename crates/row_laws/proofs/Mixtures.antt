-- Each member of a degree is a combination of contested rows and a sum of multiples of reducers.
use Rattle.std.proofs.Common.{ap₂, ◌≡◌, ◌<◌, ℕ, List, [], ◌∷◌, refl, sym, ap, ◌∙◌, All, Option, subst}
use Rattle.std.specs.List.{Contains, flat_map}
use Rattle.std.proofs.lemmas.List.Elements.{All-head, All-tail}
use Rattle.free_poly.specs.declared.term.Term.{Term}
use Rattle.linear_algebra.specs.Fields.{Field}
use Rattle.linear_algebra.specs.Spans.{IsInSpan}
use Rattle.linear_algebra.specs.Mod.{Residue}
use Rattle.linear_algebra.proofs.Algebra.{zero_add, IsInSpan-add, IsInSpan-one, IsInSpan-scaled, IsInSpan-zero, add_swap}
use Rattle.linear_algebra.proofs.Elimination.{IsInSpan-trans, same_span}
use Rattle.linear_algebra.proofs.ModField.{same_residue}
use Rattle.ideal_laws.specs.Ideal.{Ideal, IsInIdeal}
use Rattle.ideal_laws.specs.Laws.{IsSetting, Part, part_terms}
use Rattle.ideal_laws.specs.Overlaps.{AreLower, IsGenerator, reducer, of_relation, obstruction}
use Rattle.ideal_laws.specs.Quantities.{AreClosed, contested_words}
use Rattle.ideal_laws.proofs.OverlapSpan.{overlaps_suffice}
use Rattle.ideal_laws.proofs.Vectors.{IsProductVector, same_vectors, span_from_ideal, vector_of-append, vector_of-scaled}
use Rattle.ideal_laws.proofs.Vectors as vectors
use Rattle.back_reduce.specs.Rows.{IsInRowSpan, vector}
use Rattle.row_laws.specs.Contested.{AreContestedRows, IsContestedRow}
use Rattle.back_reduce.proofs.Beside.{beside_left, beside_right}
use Rattle.back_reduce.proofs.Echelons.{contained_one, one_contained}
use Rattle.back_reduce.proofs.RowLists.{OneOf}
use Rattle.row_laws.proofs.ClosedColumns.{in_degree}
use Rattle.row_laws.proofs.ContestedRows.{back_less, left, left_spanned, row_sum}
use Rattle.row_laws.proofs.DegreeRows.{IsMember, obstruction_has, relation_row, row_member}
use Rattle.row_laws.proofs.Reducers.{reducer_inside}
use Rattle.row_laws.proofs.Spread.{spread, spread-linear, spread-member, spread-zero}
use Rattle.row_laws.proofs.Triangle.{IsReducerVector}

module _ (ideal : Ideal) (st : IsSetting ideal) (d : ℕ) (G : List (List Term)) (lower : AreLower ideal d G)
    (rows : List (List Term)) (columns : List (List ℕ)) (reducers : List (Option (List Term)))
    (closed : AreClosed ideal G d rows columns reducers)
    (cells : List (List ℕ)) (are_cells : AreContestedRows ideal.modulus columns reducers rows cells) where
  abbrev K : Field
  K = vectors.K ideal.modulus st.modulus

  abbrev V : Type 0
  V = List ℕ → Residue ideal.modulus

  abbrev N : Type 0
  N = ℕ → Residue ideal.modulus

  abbrev vec : List Term → V
  vec f = vectors.vector_of ideal.modulus st.modulus f

  abbrev contested : List (List ℕ)
  contested = contested_words columns reducers

  abbrev onto : N → V
  onto e = spread ideal.modulus st.modulus contested e

  abbrev IsOwnReducer : V → Type 0
  IsOwnReducer = IsReducerVector ideal st d G lower

  abbrev IsCell : N → Type 0
  IsCell = OneOf ideal.modulus st.modulus cells

  abbrev IsProductV : V → Type 0
  IsProductV = IsProductVector ideal st.modulus d

  -- a combination of contested rows, and a sum of multiples of reducers
  pub record IsMixed (v : V) : Type 0 where
    -- an entry for each contested column
    pub entries : N
    -- the entries are a combination of the contested rows
    pub combined : IsInRowSpan ideal.modulus st.modulus cells entries
    -- what is beside them
    pub rest : V
    -- it is a sum of multiples of reducers
    pub spanned : IsInSpan K (List ℕ) IsOwnReducer rest
    -- v is the entries at the words of their columns, and the rest
    pub sum : (y : List ℕ) → v y ≡ K.add (onto entries y) (rest y)

  row_mixed : (f : List Term) → Contains rows f → IsMixed (vec f)
  row_mixed f m =
      let b = beside_left (IsContestedRow ideal.modulus columns reducers) rows cells f are_cells m in
      record {
        entries = vector ideal.modulus st.modulus b.0;
        combined = IsInSpan-one K ℕ IsCell (vector ideal.modulus st.modulus b.0)
            (contained_one ideal.modulus 0 st.modulus cells b.0 b.1.right);
        rest = vec (left ideal st d G lower rows columns reducers closed f b.0 b.1.related);
        spanned = left_spanned ideal st d G lower rows columns reducers closed f b.0 b.1.related;
        sum = row_sum ideal st d G lower rows columns reducers closed f b.0 b.1.related;
      }

  nothing_mixed : IsMixed (λ y. K.zero)
  nothing_mixed = record {
    entries = λ k. K.zero;
    combined = IsInSpan-zero K ℕ IsCell;
    rest = λ y. K.zero;
    spanned = IsInSpan-zero K (List ℕ) IsOwnReducer;
    sum = λ y. sym (ap (λ (n : Residue ideal.modulus). K.add n K.zero) (spread-zero ideal.modulus st.modulus contested (λ k. K.zero) (λ k. refl) y)
        ∙ K.add_zero K.zero);
  }

  same_mixed : (u v : V) → ((y : List ℕ) → u y ≡ v y) → IsMixed u → IsMixed v
  same_mixed u v e h = record { entries = h.entries; combined = h.combined; rest = h.rest; spanned = h.spanned; sum = λ y. sym (e y) ∙ h.sum y }

  more_mixed : (a : Residue ideal.modulus) (u v : V) → IsMixed u → IsMixed v → IsMixed (λ y. K.add (K.mul a (u y)) (v y))
  more_mixed a u v g h = record {
    entries = λ k. K.add (K.mul a (g.entries k)) (h.entries k);
    combined = IsInSpan-add K ℕ IsCell (λ k. K.mul a (g.entries k)) h.entries
        (IsInSpan-scaled K ℕ IsCell a g.entries g.combined) h.combined;
    rest = λ y. K.add (K.mul a (g.rest y)) (h.rest y);
    spanned = IsInSpan-add K (List ℕ) IsOwnReducer (λ y. K.mul a (g.rest y)) h.rest (IsInSpan-scaled K (List ℕ) IsOwnReducer a g.rest g.spanned) h.spanned;
    sum = λ y. ap₂ K.add (ap (K.mul a) (g.sum y) ∙ K.mul_add a (onto g.entries y) (g.rest y)) (h.sum y)
        ∙ add_swap K (K.mul a (onto g.entries y)) (K.mul a (g.rest y)) (onto h.entries y) (h.rest y)
        ∙ ap (λ (n : Residue ideal.modulus). K.add n (K.add (K.mul a (g.rest y)) (h.rest y)))
        (sym (spread-linear ideal.modulus st.modulus contested a g.entries h.entries y));
  }

  generator_mixed : (g : List Term) → IsGenerator ideal G d g → IsMixed (vec g)
  generator_mixed g (reducer w f over deg r) = record {
    entries = λ k. K.zero;
    combined = IsInSpan-zero K ℕ IsCell;
    rest = vec g;
    spanned = IsInSpan-one K (List ℕ) IsOwnReducer (vec g) (record {
      column = w;
      within = in_degree ideal st d G lower w over deg;
      leads = record { over = over; degree = deg; reducer = g; is_reducer = r; is = refl };
    });
    sum = λ y. sym (ap (λ (n : Residue ideal.modulus). K.add n (vec g y)) (spread-zero ideal.modulus st.modulus contested (λ k. K.zero) (λ k. refl) y)
        ∙ zero_add K (vec g y));
  }
  generator_mixed g (of_relation r among h) = row_mixed r (relation_row ideal st d G lower rows closed.are_rows r among h)
  generator_mixed g (obstruction i j a c b o) =
      let q = obstruction_has ideal st d G lower rows closed.are_rows i j a c b o in
      same_mixed (vec q.0) (vec _) q.2 (row_mixed q.0 q.1)

  parts_mixed : (parts : List Part) → All (λ c. (c.factor < ideal.modulus) × IsGenerator ideal G d c.element) parts → IsMixed (vec (flat_map part_terms parts))
  parts_mixed [] each = same_mixed (λ y. K.zero) (vec []) (λ y. same_residue ideal.modulus _ _ refl) nothing_mixed
  parts_mixed (c ∷ parts) each =
      let h = All-head (λ (c : Part). (c.factor < ideal.modulus) × IsGenerator ideal G d c.element) c parts each in
      let rest = parts_mixed parts (All-tail (λ (c : Part). (c.factor < ideal.modulus) × IsGenerator ideal G d c.element) c parts each) in
      same_mixed (λ y. K.add (K.mul (vectors.of ideal.modulus st.modulus c.factor) (vec c.element y)) (vec (flat_map part_terms parts) y))
      (vec (flat_map part_terms (c ∷ parts)))
      (λ y. sym (vector_of-append ideal.modulus st.modulus (part_terms c) (flat_map part_terms parts) y
      ∙ ap (λ (n : Residue ideal.modulus). K.add n (vec (flat_map part_terms parts) y)) (vector_of-scaled ideal.modulus st.modulus c.factor c.element y)))
      (more_mixed (vectors.of ideal.modulus st.modulus c.factor) (vec c.element) (vec (flat_map part_terms parts)) (generator_mixed c.element h.1) rest)

  -- each member of the ideal of degree d is a combination of contested rows and a sum of multiples of reducers
  pub ideal_mixed : (f : List Term) → IsInIdeal ideal d f → IsMixed (vec f)
  ideal_mixed f i =
      let s = (overlaps_suffice ideal st d G lower f i.element).0 i in
      same_mixed (vec (flat_map part_terms s.parts)) (vec f) (λ y. sym (same_vectors ideal.modulus st.modulus f (flat_map part_terms s.parts) s.sum y))
      (parts_mixed s.parts s.each)

  -- combinations of contested rows are members
  cell_member : (c : List ℕ) → Contains cells c → IsInSpan K (List ℕ) IsProductV (onto (vector ideal.modulus st.modulus c))
  cell_member c m =
      let b = beside_right (IsContestedRow ideal.modulus columns reducers) rows cells c are_cells m in
      let f = b.0 in
      let rest = vec (left ideal st d G lower rows columns reducers closed f c b.1.related) in
      let rest_member : IsInSpan K (List ℕ) IsProductV rest =
      IsInSpan-trans K (List ℕ) IsOwnReducer IsProductV (λ g h. subst (IsInSpan K (List ℕ) IsProductV) (sym h.leads.is)
      (span_from_ideal ideal st.modulus d h.leads.reducer (reducer_inside ideal st d G lower h.column h.leads.reducer h.leads.over
      h.leads.degree h.leads.is_reducer))) rest (left_spanned ideal st d G lower rows columns reducers closed f c b.1.related) in
      same_span K (List ℕ) IsProductV (λ y. K.add (vec f y) (K.mul (K.neg K.one) (rest y))) (onto (vector ideal.modulus st.modulus c))
      (λ y. ap (λ (n : Residue ideal.modulus). K.add n (K.mul (K.neg K.one) (rest y)))
      (row_sum ideal st d G lower rows columns reducers closed f c b.1.related y)
      ∙ back_less K (onto (vector ideal.modulus st.modulus c) y) (rest y))
      (IsInSpan-add K (List ℕ) IsProductV (vec f) (λ y. K.mul (K.neg K.one) (rest y))
      (row_member ideal st d G lower rows closed.are_rows f b.1.left).member
      (IsInSpan-scaled K (List ℕ) IsProductV (K.neg K.one) rest rest_member))

  -- each combination of contested rows is, at the words of their columns, a member of the degree
  pub combined_member : (e : N) → IsInRowSpan ideal.modulus st.modulus cells e → IsMember ideal st d (onto e)
  combined_member e s = spread-member ideal.modulus st.modulus contested IsCell IsProductV (λ g h.
      let c = one_contained ideal.modulus 0 st.modulus cells g h in
      subst (λ (u : N). IsInSpan K (List ℕ) IsProductV (onto u)) (sym c.2) (cell_member c.0 c.1)) e s
