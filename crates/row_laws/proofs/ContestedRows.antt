-- What a row leaves at the contested columns: beside it the row is a sum of multiples of reducers, so it is one list
-- of residues.
use Rattle.std.proofs.Common.{ap₂, ◌≡◌, ◌-◌, ◌%◌, ◌<◌, ℕ, List, [], ◌++◌, length, get_or, map, refl, sym, ap, ◌∙◌, inl, arith, Option}
use Rattle.std.specs.List.{Contains}
use Rattle.std.proofs.Math.Nat.{mod-eq_of_lt}
use Rattle.std.proofs.lemmas.List.{ext_get_or}
use Rattle.std.proofs.lemmas.List.Elements.{All-map, Contains-get_or}
use Rattle.field_table.specs.Residues.{IsFieldModulus}
use Rattle.free_poly.specs.declared.term.Term.{Term}
use Rattle.free_poly.specs.Terms.{scaled}
use Rattle.linear_algebra.specs.Fields.{Field}
use Rattle.linear_algebra.specs.Spans.{IsInSpan}
use Rattle.linear_algebra.specs.Mod.{Residue}
use Rattle.linear_algebra.proofs.Algebra.{add_left_comm, mul_neg, zero_add, IsInSpan-add, IsInSpan-scaled}
use Rattle.linear_algebra.proofs.ModField.{same_residue}
use Rattle.ideal_laws.specs.Closure.{IsReducer}
use Rattle.ideal_laws.specs.Ideal.{Ideal}
use Rattle.ideal_laws.specs.Laws.{IsSetting}
use Rattle.ideal_laws.specs.Overlaps.{AreLower}
use Rattle.ideal_laws.specs.Quantities.{AreClosed, reducers_in, contested_words}
use Rattle.ideal_laws.proofs.Neighbours.{vector_of-parts, vector_part}
use Rattle.ideal_laws.proofs.Vectors.{same_vectors, vector_of-append, vector_of-scaled}
use Rattle.ideal_laws.proofs.Vectors as vectors
use Rattle.back_reduce.specs.Rows.{vector}
use Rattle.row_laws.specs.Contested.{IsContestedRow}
use Rattle.free_poly.specs.Poly.{element_on}
use Rattle.row_laws.proofs.ClosedColumns.{column_says, column_word, contested_falling, contested_says, reducer_says}
use Rattle.row_laws.proofs.Spread.{spread, spread-absent, spread-at, spread-element}
use Rattle.row_laws.proofs.Triangle.{IsReducerVector, zero_from_normal}

module _ (K : Field) where
  -- -1 times a is the negative of a
  pub minus : (a : K.F) → K.mul (K.neg K.one) a ≡ K.neg a
  minus a = K.mul_comm (K.neg K.one) a ∙ mul_neg K a K.one ∙ ap K.neg (K.mul_one a)

  -- m + (f - m) is f
  less_back : (m f : K.F) → K.add m (K.add f (K.mul (K.neg K.one) m)) ≡ f
  less_back m f = ap (λ (n : K.F). K.add m (K.add f n)) (minus m) ∙ add_left_comm K m f (K.neg m) ∙ ap (K.add f) (K.add_neg m) ∙ K.add_zero f

  -- (s + r) - r is s
  pub back_less : (s r : K.F) → K.add (K.add s r) (K.mul (K.neg K.one) r) ≡ s
  back_less s r = ap (K.add (K.add s r)) (minus r) ∙ K.add_assoc s r (K.neg r) ∙ ap (K.add s) (K.add_neg r) ∙ K.add_zero s

-- the vector of f - h is that of f less that of h
pub vector_of-less : (p : ℕ) (fm : IsFieldModulus p) (f h : List Term) (y : List ℕ)
    → vectors.vector_of p fm (f ++ scaled (p - 1) h) y ≡ (vectors.K p fm).add (vectors.vector_of p fm f y)
    ((vectors.K p fm).mul ((vectors.K p fm).neg (vectors.K p fm).one) (vectors.vector_of p fm h y))
vector_of-less p fm f h y =
    let one : 1 % p ≡ 1 = mod-eq_of_lt {n = 1} {m = p} (omega (arith, fm.two_or_more)) in
    let neg : vectors.of p fm (p - 1) ≡ (vectors.K p fm).neg (vectors.K p fm).one =
    same_residue p (vectors.of p fm (p - 1)) ((vectors.K p fm).neg (vectors.K p fm).one) (ap (λ (n : ℕ). (p - n) % p) (sym one)) in
    vector_of-append p fm f (scaled (p - 1) h) y
    ∙ ap ((vectors.K p fm).add (vectors.vector_of p fm f y)) (vector_of-scaled p fm (p - 1) h y
    ∙ ap (λ (n : Residue p). (vectors.K p fm).mul n (vectors.vector_of p fm h y)) neg)

module _ (ideal : Ideal) (st : IsSetting ideal) (d : ℕ) (G : List (List Term)) (lower : AreLower ideal d G)
    (rows : List (List Term)) (columns : List (List ℕ)) (reducers : List (Option (List Term)))
    (closed : AreClosed ideal G d rows columns reducers) where
  abbrev K : Field
  K = vectors.K ideal.modulus st.modulus

  abbrev V : Type 0
  V = List ℕ → Residue ideal.modulus

  abbrev vec : List Term → V
  vec f = vectors.vector_of ideal.modulus st.modulus f

  abbrev contested : List (List ℕ)
  contested = contested_words columns reducers

  abbrev IsOwnReducer : V → Type 0
  IsOwnReducer = IsReducerVector ideal st d G lower

  reducer_listed : (g : List Term) → Contains (reducers_in reducers) g → IsOwnReducer (vec g)
  reducer_listed g m =
      let r = reducer_says G columns reducers closed.are_reducers g m in
      let there = column_word ideal st d G lower rows closed.are_rows columns closed.are_columns r.0 r.1 in
      let says = column_says ideal st d G lower rows closed.are_rows columns closed.are_columns r.0 r.1 in
      record {
        column = r.0;
        within = there;
        leads = record { over = says.0; degree = says.1; reducer = g; is_reducer = r.2; is = refl };
      }

  -- residues at contested columns are 0 at a word that has a reducer
  pub zero_at_reducible : (e : ℕ → Residue ideal.modulus) (x : List ℕ) (g : List Term) → IsReducer G x g
      → spread ideal.modulus st.modulus contested e x ≡ K.zero
  zero_at_reducible e x g r = spread-absent ideal.modulus st.modulus contested e x (λ m.
      let normal = (contested_says G columns reducers closed.are_reducers x m).1 in
      normal r.element r.lead r.at r.among r.is_lead r.here)

  -- what a row has beside its contested row
  module _ (f : List Term) (c : List ℕ) (h : IsContestedRow ideal.modulus columns reducers f c) where
    abbrev pub left : List Term
    left = f ++ scaled (ideal.modulus - 1) (element_on contested c)

    -- what a row has beside its contested row is a sum of multiples of reducers
    pub left_spanned : IsInSpan K (List ℕ) IsOwnReducer (vec left)
    left_spanned = record {
      parts = map (vector_part ideal st d) h.rest.parts;
      each = All-map (λ c. IsOwnReducer c.1) (vector_part ideal st d) h.rest.parts (λ k c within. reducer_listed _ (h.rest.each k c within).1);
      sum = λ w. same_vectors ideal.modulus st.modulus left _ h.rest.sum w ∙ vector_of-parts ideal st d h.rest.parts w;
    }

    -- the row is its contested row, at the words of the contested columns, and what it has beside it
    pub row_sum : (y : List ℕ) → vec f y ≡ K.add (spread ideal.modulus st.modulus contested (vector ideal.modulus st.modulus c) y) (vec left y)
    row_sum y =
        let element = element_on contested c in
        let rest = vector_of-less ideal.modulus st.modulus f element y in
        sym (ap₂ K.add (sym (spread-element ideal.modulus st.modulus contested c y)) rest ∙ less_back K (vec element y) (vec f y))

  -- two lists that one row leaves: what the row has beside them differs by a sum of reducers that is 0 at reducible
  -- words, so at all
  module _ (f : List Term) (a b : List ℕ) (ha : IsContestedRow ideal.modulus columns reducers f a)
      (hb : IsContestedRow ideal.modulus columns reducers f b) where
    abbrev onto : List ℕ → V
    onto r = spread ideal.modulus st.modulus contested (vector ideal.modulus st.modulus r)

    abbrev gap : V
    gap y = K.add (vec (left f a ha) y) (K.mul (K.neg K.one) (vec (left f b hb) y))

    gap_spanned : IsInSpan K (List ℕ) IsOwnReducer gap
    gap_spanned = IsInSpan-add K (List ℕ) IsOwnReducer (vec (left f a ha)) (λ y. K.mul (K.neg K.one) (vec (left f b hb) y)) (left_spanned f a ha)
        (IsInSpan-scaled K (List ℕ) IsOwnReducer (K.neg K.one) (vec (left f b hb)) (left_spanned f b hb))

    alone : (c : List ℕ) (h : IsContestedRow ideal.modulus columns reducers f c) (x : List ℕ) (g : List Term) → IsReducer G x g → vec (left f c h) x ≡ vec f x
    alone c h x g r = sym (row_sum f c h x ∙ ap (λ (n : Residue ideal.modulus). K.add n (vec (left f c h) x))
        (zero_at_reducible (vector ideal.modulus st.modulus c) x g r) ∙ zero_add K (vec (left f c h) x))

    none_at_reducible : (x : List ℕ) (g : List Term) → IsReducer G x g → gap x ≡ K.zero
    none_at_reducible x g r = ap₂ (λ (m n : Residue ideal.modulus). K.add m (K.mul (K.neg K.one) n)) (alone a ha x g r) (alone b hb x g r)
        ∙ ap (K.add (vec f x)) (minus K (vec f x)) ∙ K.add_neg (vec f x)

    same_at : (k : ℕ) → k < length contested → vector ideal.modulus st.modulus a k ≡ vector ideal.modulus st.modulus b k
    same_at k lt =
        let w = get_or contested k [] in
        let falling = contested_falling columns reducers closed.are_columns.falling in
        let says = contested_says G columns reducers closed.are_reducers w (Contains-get_or contested k [] lt) in
        let there = column_word ideal st d G lower rows closed.are_rows columns closed.are_columns w says.0 in
        let none : gap w ≡ K.zero = zero_from_normal ideal st d G lower gap gap_spanned w there says.1
        (λ x g r greater. none_at_reducible x g r) w (inl refl) in
        let rests : vec (left f a ha) w ≡ vec (left f b hb) w = sym (less_back K (vec (left f b hb) w) (vec (left f a ha) w))
        ∙ ap (K.add (vec (left f b hb) w)) none ∙ K.add_zero (vec (left f b hb) w) in
        let both : onto a w ≡ onto b w =
        sym (back_less K (onto a w) (vec (left f a ha) w)) ∙ ap₂ (λ (n r : Residue ideal.modulus). K.add n (K.mul (K.neg K.one) r))
        (sym (row_sum f a ha w) ∙ row_sum f b hb w) rests ∙ back_less K (onto b w) (vec (left f b hb) w) in
        sym (spread-at ideal.modulus st.modulus contested (vector ideal.modulus st.modulus a) k falling lt) ∙ both
        ∙ spread-at ideal.modulus st.modulus contested (vector ideal.modulus st.modulus b) k falling lt

    -- two lists of residues that one row leaves at the contested columns are equal
    pub one_row : a ≡ b
    one_row = ext_get_or 0 a b (ha.is_row.size ∙ sym hb.is_row.size) (λ k within.
        let lt : k < length contested = omega (arith, within, ha.is_row.size) in
        sym (mod-eq_of_lt (ha.is_row.residues k 0 within)) ∙ ap (λ (x : Residue ideal.modulus). x.0) (same_at k lt)
        ∙ mod-eq_of_lt (hb.is_row.residues k 0 (omega (arith, lt, hb.is_row.size))))
