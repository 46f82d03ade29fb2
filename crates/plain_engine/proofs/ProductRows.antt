-- The products of a degree as rows over its words.
use Rattle.std.proofs.Common.{◌≡◌, ◌≢◌, ◌+◌, ◌-◌, ◌%◌, ◌<◌, ◌≤◌, ℕ, Bool, cond, List, [], ◌∷◌, ◌++◌, drop, length, leb, get_or, refl}
use Rattle.std.proofs.Common.{sym, ap, ap₂, ◌∙◌, inl, inr, arith, All, AllPairs, subst, take, length-append}
use Rattle.std.specs.List.{Contains, flat_map, range_with_len}
use Rattle.std.proofs.lemmas.Bool.{cases_Bool, le-leb, leb-true}
use Rattle.std.proofs.lemmas.List.{drop_at, get_or-map, get_or_default, take-append-drop, take_at}
use Rattle.std.proofs.lemmas.List.Elements.{All-contains, All-append, All-cons, All-drop, All-head, All-tail, All-take, All-weaker}
use Rattle.words.specs.Words.{IsOver, degree_of, words_of_degree}
use Rattle.words.specs.Order.{IsLetterwiseGreater}
use Rattle.words.proofs.Degrees.{Contains-range, listed_word, words_of_degree-falling, words_of_degree-says}
use Rattle.words.proofs.Members.{AllPairs-first, Contains-flat_map, Contains-flat_map_cases, Contains-map, Contains-map_cases, Contains-none}
use Rattle.words.proofs.Weights.{degree_of-append}
use Rattle.free_poly.specs.declared.term.Term.{Term}
use Rattle.free_poly.specs.Terms.{HasDegree, HasOneDegree, UsesLetters, product, total_at}
use Rattle.free_poly.proofs.FromWords.{listed}
use Rattle.free_poly.proofs.Products.{HasDegree-product, UsesLetters-product, degree_of-round}
use Rattle.free_poly.proofs.Totals.{total_at-absent}
use Rattle.linear_algebra.specs.Fields.{Field}
use Rattle.linear_algebra.specs.Spans.{IsInSpan, sum_of}
use Rattle.linear_algebra.specs.Mod.{Residue}
use Rattle.linear_algebra.proofs.Algebra.{IsInSpan-add, IsInSpan-one, IsInSpan-scaled, IsInSpan-zero}
use Rattle.linear_algebra.proofs.Elimination.{same_span}
use Rattle.linear_algebra.proofs.ModField.{same_residue}
use Rattle.ideal_laws.specs.Ideal.{Ideal, IsMultiple, Multiple}
use Rattle.ideal_laws.specs.Laws.{IsRelation, IsSetting}
use Rattle.ideal_laws.proofs.Vectors.{IsProductVector}
use Rattle.ideal_laws.proofs.Vectors as vectors
use Rattle.back_reduce.specs.Rows.{IsInRowSpan, vector}
use Rattle.back_reduce.proofs.Echelons.{one_contained}
use Rattle.back_reduce.proofs.RowLists.{OneOf}
use Rattle.row_laws.proofs.Spread.{spread, spread-absent, spread-at, spread-linear, spread-member, spread-zero}
use Rattle.degree_words.specs.Lists.{AreLists, list_at}
use Rattle.plain_engine.specs.Products.{coefficients, relation_rows, word_rows, words_round}
use Rattle.plain_engine.proofs.RowSpans.{span_one}

-- the list of the degree itself has all words of this degree
pub last_list : (weights : List ℕ) (d : ℕ) (lists : List (List (List ℕ))) → AreLists weights d lists (d + 1) → list_at lists d ≡ words_of_degree weights d
last_list weights d lists al = al.listed d (omega arith) (subst (λ (n : ℕ). words_of_degree weights n ≢ []) none_left (λ e. cc e))
  where
    none_left : 0 ≡ d - d
    none_left = omega arith

module _ (ideal : Ideal) (st : IsSetting ideal) (d : ℕ) (lists : List (List (List ℕ))) (al : AreLists ideal.weights d lists (d + 1)) where
  abbrev pub ws : List (List ℕ)
  ws = words_of_degree ideal.weights d

  abbrev Kd : Field
  Kd = vectors.K ideal.modulus st.modulus

  abbrev Vd : Type 0
  Vd = List ℕ → Residue ideal.modulus

  abbrev N : Type 0
  N = ℕ → Residue ideal.modulus

  -- entries at the columns as a vector over words
  abbrev pub onto : N → Vd
  onto u = spread ideal.modulus st.modulus ws u

  abbrev IsProductV : Vd → Type 0
  IsProductV = IsProductVector ideal st.modulus d

  abbrev pub all_rows : List (List ℕ)
  all_rows = flat_map (relation_rows ideal.weights lists d ws) ideal.relations

  -- the row of a product
  abbrev row_of : Multiple → List ℕ
  row_of m = coefficients ws (product m.left m.relation m.right)

  falling : AllPairs IsLetterwiseGreater ws
  falling = words_of_degree-falling ideal.weights st.are_weights d

  in_degree : (k : ℕ) (w : List ℕ) → IsOver (length ideal.weights) w → degree_of ideal.weights w ≡ k → Contains (words_of_degree ideal.weights k) w
  in_degree k w over e = subst (λ (n : ℕ). Contains (words_of_degree ideal.weights n) w) e (listed_word ideal.weights st.are_weights w over)

  -- a word in the letters of the ideal that has degree d is a column
  pub in_columns : (w : List ℕ) → IsOver (length ideal.weights) w → degree_of ideal.weights w ≡ d → Contains ws w
  in_columns = in_degree d

  -- the list of the words that fill a word up to the degree
  filled : (t : List ℕ) → IsOver (length ideal.weights) t → degree_of ideal.weights t ≤ d
      → list_at lists (d - degree_of ideal.weights t) ≡ words_of_degree ideal.weights (d - degree_of ideal.weights t)
  filled t over le = al.listed (d - degree_of ideal.weights t) (omega (arith, le)) (λ none.
      Contains-none t (subst (λ (xs : List (List ℕ)). Contains xs t) none (in_degree (d - (d - degree_of ideal.weights t)) t over (omega (arith, le)))))

  row_listed : (m : Multiple) → IsMultiple ideal d m → Contains all_rows (row_of m)
  row_listed m h =
      let r = All-contains (IsRelation ideal.modulus ideal.weights) ideal.relations m.relation st.are_relations h.among in
      Contains-flat_map (relation_rows ideal.weights lists d ws) ideal.relations m.relation (row_of m) h.among (by_first m.relation r.other r.letters h.degree)
    where
      by_first : (r : List Term) → r ≢ [] → UsesLetters (length ideal.weights) r → HasDegree ideal.weights d (product m.left r m.right)
          → Contains (relation_rows ideal.weights lists d ws r) (coefficients ws (product m.left r m.right))
      by_first [] ne letters deg = absurd (ne refl)
      by_first (t ∷ f) ne letters deg =
          let r = t ∷ f in
          let w = m.left ++ m.right in
          let g = degree_of ideal.weights t.word in
          let over = All-head (λ s. IsOver (length ideal.weights) s.word) t f letters in
          let sizes : degree_of ideal.weights m.left + g + degree_of ideal.weights m.right ≡ d =
          sym (degree_of-round ideal.weights m.left t.word m.right) ∙ All-head (λ s. degree_of ideal.weights s.word ≡ d) _
          (product m.left f m.right) deg in
          let within : g ≤ d = omega (arith, sizes) in
          let there : Contains (list_at lists (d - g)) w = subst (λ (xs : List (List ℕ)). Contains xs w) (sym (filled t.word over within))
          (in_degree (d - g) w (All-append (λ x. x < length ideal.weights) m.left m.right h.left_over h.right_over)
          (degree_of-append ideal.weights m.left m.right ∙ omega (arith, sizes))) in
          let parted : coefficients ws (product (take (length m.left) w) r (drop (length m.left) w)) ≡ coefficients ws (product m.left r m.right) =
          ap₂ (λ (u v : List ℕ). coefficients ws (product u r v)) (take_at m.left m.right (length m.left) refl) (drop_at m.left m.right (length m.left) refl) in
          Contains-flat_map (word_rows ws r) (words_round ideal.weights lists d r) w (coefficients ws (product m.left r m.right))
          (subst (λ (b : Bool). Contains (cond b (list_at lists (d - g)) []) w) (sym (le-leb g d within)) there)
          (subst (Contains (word_rows ws r w)) parted
          (Contains-map (λ k. coefficients ws (product (take k w) r (drop k w))) (range_with_len 0 (length w + 1)) (length m.left)
          (Contains-range 0 (length w + 1) (length m.left) (omega arith) (omega (arith, length-append m.left m.right)))))

  -- a row of the list with its product
  record IsRowOf (row : List ℕ) : Type 0 where
    pub multiple : Multiple
    pub is_multiple : IsMultiple ideal d multiple
    pub is : row ≡ row_of multiple

  listed_row : (row : List ℕ) → Contains all_rows row → IsRowOf row
  listed_row row h =
      let r = Contains-flat_map_cases (relation_rows ideal.weights lists d ws) ideal.relations row h in
      let w = Contains-flat_map_cases (word_rows ws r.0) (words_round ideal.weights lists d r.0) row r.2 in
      let k = Contains-map_cases (λ k. coefficients ws (product (take k w.0) r.0 (drop k w.0))) (range_with_len 0 (length w.0 + 1)) row w.2 in
      let whole = All-contains (IsRelation ideal.modulus ideal.weights) ideal.relations r.0 st.are_relations r.1 in
      let says = by_first r.0 w.0 whole.letters whole.one_degree w.1 in
      record {
        multiple = record { factor = 0; left = take k.0 w.0; relation = r.0; right = drop k.0 w.0 };
        is_multiple = record {
          residue = omega (arith, st.modulus.two_or_more);
          left_over = All-take (λ x. x < length ideal.weights) k.0 w.0 says.0;
          right_over = All-drop (λ x. x < length ideal.weights) k.0 w.0 says.0;
          among = r.1;
          degree = subst (λ (n : ℕ). HasDegree ideal.weights n (product (take k.0 w.0) r.0 (drop k.0 w.0)))
              (omega (arith, says.1.2, degree_of-append ideal.weights (take k.0 w.0) (drop k.0 w.0), ap (degree_of ideal.weights) (take-append-drop k.0 w.0)))
              (HasDegree-product ideal.weights says.1.0 (take k.0 w.0) r.0 (drop k.0 w.0) says.1.1);
        };
        is = sym k.2;
      }
    where
      by_first : (r : List Term) (w : List ℕ) → UsesLetters (length ideal.weights) r → HasOneDegree ideal.weights r
          → Contains (words_round ideal.weights lists d r) w
          → IsOver (length ideal.weights) w × ((g : ℕ) × HasDegree ideal.weights g r × (g + degree_of ideal.weights w ≡ d))
      by_first [] w letters one m = absurd (Contains-none w m)
      by_first (t ∷ f) w letters one m = elim (cases_Bool (leb (degree_of ideal.weights t.word) d)) [
        | inl le ↦
            let g = degree_of ideal.weights t.word in
            let within = leb-true g d le in
            let there = subst (λ (b : Bool). Contains (cond b (list_at lists (d - g)) []) w) le m in
            let over = All-head (λ s. IsOver (length ideal.weights) s.word) t f letters in
            let says = words_of_degree-says ideal.weights st.are_weights (d - g) w
            (subst (λ (xs : List (List ℕ)). Contains xs w) (filled t.word over within) there) in (
              says.0,
              (
                g,
                All-cons (λ s. degree_of ideal.weights s.word ≡ g) t f refl
                    (All-weaker (λ s. g ≡ degree_of ideal.weights s.word) (λ s. degree_of ideal.weights s.word ≡ g) (λ s e. sym e) f
                    (AllPairs-first (λ s t. degree_of ideal.weights s.word ≡ degree_of ideal.weights t.word) t f one)),
                omega (arith, says.1, within),
              ),
            )
        | inr gt ↦ absurd (Contains-none w (subst (λ (b : Bool). Contains (cond b (list_at lists (d - degree_of ideal.weights t.word)) []) w) gt m))
      ]

  -- a row of a product is its vector
  row_vector : (m : Multiple) → IsMultiple ideal d m → (w : List ℕ) →
      onto (vector ideal.modulus st.modulus (row_of m)) w ≡ vectors.vector_of ideal.modulus st.modulus (product m.left m.relation m.right) w
  row_vector m h w =
      let f = product m.left m.relation m.right in
      let r = All-contains (IsRelation ideal.modulus ideal.weights) ideal.relations m.relation st.are_relations h.among in
      let letters = UsesLetters-product (length ideal.weights) m.left m.relation m.right h.left_over h.right_over r.letters in
      let u = vector ideal.modulus st.modulus (row_of m) in
      elim (listed ws w) [
        | inl there ↦
            let k = there.0 in
            let word : get_or ws k [] ≡ w = get_or_default ws k [] w there.1 ∙ there.2 in
            ap (onto u) (sym word) ∙ spread-at ideal.modulus st.modulus ws u k falling there.1
            ∙ same_residue ideal.modulus _ _ (ap (λ (n : ℕ). n % ideal.modulus) (get_or-map (λ x. total_at f x) ws k [] 0 there.1 ∙ ap (total_at f) word))
        | inr off ↦ spread-absent ideal.modulus st.modulus ws u w off
            ∙ sym (same_residue ideal.modulus _ _ (ap (λ (n : ℕ). n % ideal.modulus) (total_at-absent f w (λ k t within e. off (subst (Contains ws) e
            (in_columns (get_or f k t).word (letters k t within) (h.degree k t within)))))))
      ]

  -- a sum of multiples of the rows of products is, at the words of the columns, a sum of multiples of products
  pub combined_member : (u : N) → IsInRowSpan ideal.modulus st.modulus all_rows u → IsInSpan Kd (List ℕ) IsProductV (onto u)
  combined_member = spread-member ideal.modulus st.modulus ws (OneOf ideal.modulus st.modulus all_rows) IsProductV (λ g one. (
      let c = one_contained ideal.modulus 0 st.modulus all_rows g one in
      let r = listed_row c.0 c.1 in
      let f = product r.multiple.left r.multiple.relation r.multiple.right in
      subst (λ (u : N). IsInSpan Kd (List ℕ) IsProductV (onto u)) (sym c.2)
      (same_span Kd (List ℕ) IsProductV (vectors.vector_of ideal.modulus st.modulus f) (onto (vector ideal.modulus st.modulus c.0))
      (λ w. sym (ap (λ (q : List ℕ). onto (vector ideal.modulus st.modulus q) w) r.is ∙ row_vector r.multiple r.is_multiple w))
      (IsInSpan-one Kd (List ℕ) IsProductV (vectors.vector_of ideal.modulus st.modulus f)
      (record { multiple = r.multiple; is_multiple = r.is_multiple; is = refl })))))

  -- a vector and a sum of multiples of rows that gives it
  pub record IsCombined (v : Vd) : Type 0 where
    -- an entry for each column
    pub entries : N
    -- the entries are a sum of multiples of the rows of products
    pub inside : IsInRowSpan ideal.modulus st.modulus all_rows entries
    -- v is the entries at the words of their columns
    pub same : (w : List ℕ) → v w ≡ onto entries w

  parts_combined : (cs : List (Kd.F × Vd)) → All (λ c. IsProductV c.1) cs → IsCombined (sum_of Kd (List ℕ) cs)
  parts_combined [] each = record {
    entries = λ k. Kd.zero;
    inside = IsInSpan-zero Kd ℕ (OneOf ideal.modulus st.modulus all_rows);
    same = λ w. sym (spread-zero ideal.modulus st.modulus ws (λ k. Kd.zero) (λ k. refl) w);
  }
  parts_combined (c ∷ cs) each =
      let h = All-head (λ (e : Kd.F × Vd). IsProductV e.1) c cs each in
      let rest = parts_combined cs (All-tail (λ (e : Kd.F × Vd). IsProductV e.1) c cs each) in
      let u = vector ideal.modulus st.modulus (row_of h.multiple) in
      record {
        entries = λ k. Kd.add (Kd.mul c.0 (u k)) (rest.entries k);
        inside = IsInSpan-add Kd ℕ (OneOf ideal.modulus st.modulus all_rows) (λ k. Kd.mul c.0 (u k)) rest.entries
            (IsInSpan-scaled Kd ℕ (OneOf ideal.modulus st.modulus all_rows) c.0 u
            (span_one ideal.modulus st.modulus all_rows (row_of h.multiple) (row_listed h.multiple h.is_multiple))) rest.inside;
        same = λ w. ap₂ (λ (m n : Kd.F). Kd.add (Kd.mul c.0 m) n) (ap (λ (v : Vd). v w) h.is ∙ sym (row_vector h.multiple h.is_multiple w)) (rest.same w)
            ∙ sym (spread-linear ideal.modulus st.modulus ws c.0 u rest.entries w);
      }

  -- each sum of multiples of products is such a sum of multiples of rows
  pub member_combined : (v : Vd) → IsInSpan Kd (List ℕ) IsProductV v → IsCombined v
  member_combined v s =
      let r = parts_combined s.parts s.each in
      record { entries = r.entries; inside = r.inside; same = λ w. s.sum w ∙ r.same w }
