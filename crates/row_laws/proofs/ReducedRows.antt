-- The elements of an echelon form over the words of a degree: those with a normal leading word are the reduced elements of
-- the degree, and the elements of all rows fall.
use Rattle.std.proofs.Common.{◌≡◌, ◌<◌, ℕ, List, [], ◌++◌, length, get_or, map, sym, ap, ◌∙◌, arith, AllPairs}
use Rattle.std.proofs.Common.{Some, subst, length-append}
use Rattle.std.specs.List.{Contains}
use Rattle.std.proofs.lemmas.List.{get_or-map, length-map}
use Rattle.std.proofs.lemmas.List.Elements.{All-contains, Contains-get_or}
use Rattle.std.proofs.lemmas.Slice.Zip.{get_or-zip, length-zip}
use Rattle.words.specs.Words.{IsOver, IsProperFactor, degree_of}
use Rattle.words.specs.Order.{IsLetterwiseGreater}
use Rattle.words.proofs.Degrees.{listed_word}
use Rattle.words.proofs.Factors.{factor_occurs, occurs_factor}
use Rattle.words.proofs.Weights.{length-le-degree_of}
use Rattle.free_poly.specs.declared.term.Term.{Term}
use Rattle.free_poly.specs.Poly.{lead_of, element_on}
use Rattle.free_poly.proofs.Products.{degree_of-round}
use Rattle.linear_algebra.specs.Mod.{Residue}
use Rattle.ideal_laws.specs.Ideal.{Ideal, IsInIdeal, IsLeadingWord}
use Rattle.ideal_laws.specs.Basis.{HasGreaterLead, IsReduced}
use Rattle.ideal_laws.specs.Closure.{IsNormal}
use Rattle.ideal_laws.specs.Laws.{IsSetting}
use Rattle.ideal_laws.specs.Overlaps.{AreLower}
use Rattle.ideal_laws.proofs.Factors.{All-back, All-front, factor_trans, shorter}
use Rattle.ideal_laws.proofs.NormalLeads.{normal_no_lead}
use Rattle.ideal_laws.proofs.OneBasis.{monic-led}
use Rattle.back_reduce.specs.Rows.{IsInRowSpan, IsRow}
use Rattle.back_reduce.specs.Rref.{IsRref}
use Rattle.row_laws.proofs.DegreeRows.{IsMember}
use Rattle.row_laws.proofs.Leaders.{IsLedBy, lead_within, leads_rising, led_rows, of_lead, row_vector, with_lead}
use Rattle.row_laws.proofs.Reducers.{lead_degree}
use Rattle.row_laws.proofs.RowElements.{lead_says, row_lead, row_reduced}
use Rattle.row_laws.proofs.Spread.{spread}
use Rattle.ideal_laws.proofs.Differ.{reduced_one}

module _ (ideal : Ideal) (st : IsSetting ideal) (d : ℕ) (G : List (List Term)) (lower : AreLower ideal d G) where
  -- a normal word of the degree has no proper factor that is a leading word
  pub normal_none_inside : (w : List ℕ) → IsOver (length ideal.weights) w → degree_of ideal.weights w ≡ d → IsNormal G w → (v : List ℕ) → IsProperFactor v w
      → IsLeadingWord ideal (degree_of ideal.weights v) v → ⊥
  normal_none_inside w over deg normal v proper l =
      let i = proper.inside in
      let whole = subst (IsOver (length ideal.weights)) i.joined over in
      let over_v = All-back (λ x. x < length ideal.weights) i.before v (All-front (λ x. x < length ideal.weights) (i.before ++ v) i.after whole) in
      let less : degree_of ideal.weights v < d = omega (
        arith,
        deg,
        ap (degree_of ideal.weights) i.joined,
        degree_of-round ideal.weights i.before v i.after,
        ap length i.joined,
        length-append (i.before ++ v) i.after,
        length-append i.before v,
        shorter v w proper,
        length-le-degree_of ideal.weights st.are_weights i.before,
        length-le-degree_of ideal.weights st.are_weights i.after,
      ) in
      normal_no_lead ideal st d G lower (degree_of ideal.weights v) v less (listed_word ideal.weights st.are_weights v over_v) (λ g u k among lead o.
      let inside = factor_trans u v w (occurs_factor u v k o) i in
      normal g u (length inside.before) among lead (factor_occurs u w inside)) l

  -- a leading word of a reduced element contains none of a lower one
  pub reduced_normal : (f : List Term) (w : List ℕ) → IsReduced ideal d f → lead_of f ≡ Some w → IsNormal G w
  reduced_normal f w h e g v k m lead o =
      let low = (lower g).0 m in
      let deg_v : degree_of ideal.weights v ≡ low.0 = lead_degree ideal st low.0 g v low.2 lead in
      (h.minimal w e).none_inside v (record {
        inside = occurs_factor v w k o;
        other =
            λ is. omega (arith, ap (degree_of ideal.weights) is, deg_v, lead_degree ideal st d f w h e, low.1);
      })
      (record { member = g; inside = subst (λ (n : ℕ). IsInIdeal ideal n g) (sym deg_v) low.2.inside; lead = lead })

module _ (ideal : Ideal) (st : IsSetting ideal) (d : ℕ) (columns : List (List ℕ)) (falling : AllPairs IsLetterwiseGreater columns)
    (cells echelon : List (List ℕ)) (rref : IsRref ideal.modulus (length columns) cells echelon)
    (members : (u : ℕ → Residue ideal.modulus) → IsInRowSpan ideal.modulus st.modulus cells u →
    IsMember ideal st d (spread ideal.modulus st.modulus columns u)) where
  abbrev m : ℕ
  m = length columns

  abbrev N : Type 0
  N = ℕ → Residue ideal.modulus

  abbrev vec : List ℕ → N
  vec r = row_vector ideal.modulus m st.modulus cells echelon rref r

  abbrev es : List (ℕ × N)
  es = led_rows ideal.modulus m st.modulus cells echelon rref

  -- a row of the form and its leading column
  pub record IsLedRow (l : ℕ) (r : List ℕ) : Type 0 where
    pub among : Contains es (l, vec r)
    pub is_row : IsRow ideal.modulus m r
    pub within : l < m
    pub leads : lead_of (element_on columns r) ≡ Some (get_or columns l [])

  led_row : (l : ℕ) (r : List ℕ) → Contains es (l, vec r) → Contains echelon r → IsLedRow l r
  led_row l r n k =
      let is_row = All-contains (IsRow ideal.modulus m) echelon r rref.each k in
      record {
        among = n;
        is_row = is_row;
        within = lead_within ideal.modulus m st.modulus cells echelon rref (l, vec r) n;
        leads = row_lead ideal st d columns falling cells echelon rref members l r n is_row;
      }

  -- each row of the form has a leading column, and the word of this column is the leading word of the row's element
  pub led_of : (r : List ℕ) → Contains echelon r → (l : ℕ) × IsLedRow l r
  led_of r k = let l = with_lead vec rref.leads echelon rref.count r k in (l.0, led_row l.0 r l.1 k)

  -- a later row leads at a later column, which has a smaller word
  pub rows_fall : AllPairs (λ (r s : List ℕ). HasGreaterLead (element_on columns r) (element_on columns s)) echelon
  rows_fall i j e below within =
      let size : length es ≡ length echelon = omega (arith, length-zip rref.leads (map vec echelon), length-map echelon vec, rref.count) in
      let at : (k : ℕ) → k < length echelon → get_or es k (0, vec []) ≡ (get_or rref.leads k 0, vec (get_or echelon k e)) =
      λ k lt. get_or-zip rref.leads (map vec echelon) k (0, vec []) (omega (arith, lt, rref.count)) (omega (arith, lt, length-map echelon vec))
      ∙ (λ i. (get_or rref.leads k 0, get_or-map vec echelon k e (vec []) lt i)) in
      let led : (k : ℕ) → k < length echelon → IsLedRow (get_or rref.leads k 0) (get_or echelon k e) =
      λ k lt. led_row (get_or rref.leads k 0) (get_or echelon k e)
      (subst (Contains es) (at k lt) (Contains-get_or es k (0, vec []) (omega (arith, lt, size)))) (Contains-get_or echelon k e lt) in
      let before : i < length echelon = omega (arith, below, within) in
      let later : get_or rref.leads i 0 < get_or rref.leads j 0 = omega (
        arith,
        leads_rising ideal.modulus m st.modulus cells echelon rref i j (0, vec []) below (omega (arith, within, size)),
        ap (λ (x : ℕ × N). x.0) (at i before),
        ap (λ (x : ℕ × N). x.0) (at j within),
      ) in
      record {
        of_f = get_or columns (get_or rref.leads i 0) [];
        of_g = get_or columns (get_or rref.leads j 0) [];
        leads_f = (led i before).leads;
        leads_g = (led j within).leads;
        greater = falling (get_or rref.leads i 0) (get_or rref.leads j 0) [] later (led j within).within;
      }

  -- where normal leading words, and those among the columns, are those of rows
  module _ (G : List (List Term)) (lower : AreLower ideal d G)
      (among : (w : List ℕ) → Contains columns w → IsLeadingWord ideal d w → IsLedBy ideal.modulus m st.modulus cells echelon rref columns w)
      (normal : (w : List ℕ) → IsLeadingWord ideal d w → IsNormal G w → IsLedBy ideal.modulus m st.modulus cells echelon rref columns w) where
    -- the element of a row is reduced where its leading column has a normal word
    pub row_is_reduced : (l : ℕ) (r : List ℕ) → IsLedRow l r → IsNormal G (get_or columns l []) → IsReduced ideal d (element_on columns r)
    row_is_reduced l r led h =
        let says = lead_says ideal st d columns falling cells echelon rref members l r led.among led.is_row in
        row_reduced ideal st d columns falling cells echelon rref members l r led.among led.is_row among
        (normal_none_inside ideal st d G lower (get_or columns l []) says.0 says.1 h)

    -- the row of a reduced element
    pub record IsOfRow (f : List Term) : Type 0 where
      pub row : List ℕ
      pub listed : Contains echelon row
      pub lead : ℕ
      pub led : IsLedRow lead row
      pub normal_lead : IsNormal G (get_or columns lead [])
      pub is : f ≡ element_on columns row

    -- each reduced element of the degree is the element of a row whose leading column has a normal word
    pub reduced_of_row : (f : List Term) → IsReduced ideal d f → IsOfRow f
    reduced_of_row f h =
        let x = monic-led f h.monic in
        let own = reduced_normal ideal st d G lower f x.0 h x.1 in
        let q = normal x.0 (record { member = f; inside = h.inside; lead = x.1 }) own in
        let r = of_lead vec rref.leads echelon q.row q.among in
        let led = led_row q.row.0 r.0 (subst (Contains es) (λ i. (q.row.0, r.2 i)) q.among) r.1 in
        let word = subst (IsNormal G) (sym q.word) own in
        record {
          row = r.0;
          listed = r.1;
          lead = q.row.0;
          led = led;
          normal_lead = word;
          is = reduced_one ideal st d f (element_on columns r.0) x.0 h (row_is_reduced q.row.0 r.0 led word) x.1 (led.leads ∙ ap Some q.word);
        }
