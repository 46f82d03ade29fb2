-- Two products of lower elements with one leading word differ by smaller ones, or by the row of an obstruction.
use Rattle.std.proofs.Common.{ap₂, ◌≡◌, ◌≢◌, ◌⊎◌, ◌+◌, ◌-◌, ◌%◌, ◌<◌, ◌≤◌, ℕ, true, List, [], ◌∷◌, ◌++◌, length, refl, sym, ap, ◌∙◌, inl, inr, arith}
use Rattle.std.proofs.Common.{AllPairs, subst, Some, bytes_eq, length-append, append-nil}
use Rattle.std.specs.List.{Contains}
use Rattle.std.proofs.Math.Nat.{mod-eq_of_lt}
use Rattle.std.proofs.lemmas.Bool.{cases_Bool, cases_lt}
use Rattle.std.proofs.lemmas.List.{append_assoc, nil_from_length}
use Rattle.std.proofs.lemmas.List.Elements.{All-append, All-contains, All-head, All-nil, All-tail, Contains-append_cases}
use Rattle.std.proofs.lemmas.Option.{same_Some}
use Rattle.std.proofs.lemmas.Slice.Eq.{bytes_eq-Decides}
use Rattle.words.specs.Words.{IsFactor, IsOver, degree_of, words_of_degree}
use Rattle.words.specs.Order.{IsLetterwiseGreater}
use Rattle.words.proofs.Degrees.{listed_word, words_of_degree-falling}
use Rattle.words.proofs.Members.{AllPairs-first, AllPairs-rest, Contains-cases, Contains-first, Contains-more, Contains-none}
use Rattle.words.proofs.Weights.{degree_of-append, length-le-degree_of}
use Rattle.free_poly.specs.declared.term.Term.{Term}
use Rattle.free_poly.specs.Terms.{product, scaled}
use Rattle.free_poly.specs.Poly.{lead_of}
use Rattle.free_poly.proofs.Products.{degree_of-round, letterwise-product, product-product}
use Rattle.free_poly.proofs.Totals.{letterwise-apart}
use Rattle.linear_algebra.specs.Fields.{Field}
use Rattle.linear_algebra.specs.Spans.{IsInSpan}
use Rattle.linear_algebra.specs.Mod.{Residue}
use Rattle.linear_algebra.proofs.Algebra.{zero_add, add_left_comm, mul_zero, mul_neg, IsInSpan-add, IsInSpan-scaled, IsInSpan-one, IsInSpan-zero}
use Rattle.linear_algebra.proofs.Elimination.{same_span}
use Rattle.linear_algebra.proofs.ModField.{same_residue}
use Rattle.ideal_laws.specs.Basis.{HasGreaterLead, IsReduced}
use Rattle.ideal_laws.specs.Closure.{obstruction_row}
use Rattle.ideal_laws.specs.Ideal.{Ideal}
use Rattle.ideal_laws.specs.Laws.{IsSetting}
use Rattle.ideal_laws.proofs.Factors.{All-back, All-front}
use Rattle.ideal_laws.proofs.Leads.{IsMemberVector}
use Rattle.ideal_laws.proofs.Meeting.{IsMet, apart, inside, starts, overlap, both_ways, by_first, by_second, meet, round_words}
use Rattle.ideal_laws.proofs.OneBasis.{has_one_basis}
use Rattle.ideal_laws.proofs.Represented.{IsLower, IsLowerAmong, IsLowerProduct, before_it, lower_above, lower_inside, lower_one, represented_from}
use Rattle.ideal_laws.proofs.Shifted.{shifted, shifted-linear, span_shifted, vector_of-product}
use Rattle.ideal_laws.proofs.Vectors.{span_from_ideal, vector_of-append, vector_of-scaled}
use Rattle.ideal_laws.proofs.Vectors as vectors

-- two members of a list in an order are one, or stand in it one way or the other
pair_cases : {X : Type 0} (R : X → X → Type 0) (xs : List X) → AllPairs R xs → (x y : X) → Contains xs x → Contains xs y → (x ≡ y) ⊎ ((R x y) ⊎ (R y x))
pair_cases R [] h x y m n = absurd (Contains-none x m)
pair_cases R (z ∷ xs) h x y m n = elim (Contains-cases z xs x m) [
  | inl e ↦ elim (Contains-cases z xs y n) [
    | inl f ↦ inl (sym e ∙ f)
    | inr k ↦ inr (inl (subst (λ (w : _). R w y) e (All-contains (R z) xs y (AllPairs-first R z xs h) k)))
  ]
  | inr j ↦ elim (Contains-cases z xs y n) [
    | inl f ↦ inr (inr (subst (λ (w : _). R w x) f (All-contains (R z) xs x (AllPairs-first R z xs h) j)))
    | inr k ↦ pair_cases R xs (AllPairs-rest R z xs h) x y j k
  ]
]

-- a list about one of its members
pub record IsAbout (ws : List (List ℕ)) (x : List ℕ) : Type 0 where
  pub pre : List (List ℕ)
  pub post : List (List ℕ)
  pub is : ws ≡ pre ++ x ∷ post

about : (ws : List (List ℕ)) (x : List ℕ) → Contains ws x → IsAbout ws x
about [] x m = absurd (Contains-none x m)
about (w ∷ ws) x m = elim (Contains-cases w ws x m) [
  | inl e ↦ record { pre = []; post = ws; is = ap (λ (y : List ℕ). y ∷ ws) e }
  | inr n ↦ let a = about ws x n in record { pre = w ∷ a.pre; post = a.post; is = ap (λ (r : List (List ℕ)). w ∷ r) a.is }
]

-- behind a member of a falling list all are smaller
behind_it : (pre : List (List ℕ)) (x : List ℕ) (xs : List (List ℕ)) → AllPairs IsLetterwiseGreater (pre ++ x ∷ xs) → (y : List ℕ) →
    Contains xs y → IsLetterwiseGreater x y
behind_it [] x xs h y m = All-contains (IsLetterwiseGreater x) xs y (AllPairs-first IsLetterwiseGreater x xs h) m
behind_it (a ∷ pre) x xs h y m = behind_it pre x xs (AllPairs-rest IsLetterwiseGreater a (pre ++ x ∷ xs) h) y m

module _ (ideal : Ideal) (st : IsSetting ideal) where
  abbrev Kd : Field
  Kd = vectors.K ideal.modulus st.modulus

  abbrev Vd : Type 0
  Vd = List ℕ → Residue ideal.modulus

  abbrev vec : List Term → Vd
  vec f = vectors.vector_of ideal.modulus st.modulus f

  -- the row of an obstruction of degree d
  pub record IsRow (d : ℕ) (v : Vd) : Type 0 where
    pub first : List Term
    pub second : List Term
    pub first_lower : IsLower ideal st d first
    pub second_lower : IsLower ideal st d second
    pub before : List ℕ
    pub shared : List ℕ
    pub behind : List ℕ
    pub some_before : before ≢ []
    pub some_shared : shared ≢ []
    pub some_behind : behind ≢ []
    pub first_lead : lead_of first ≡ Some (before ++ shared)
    pub second_lead : lead_of second ≡ Some (shared ++ behind)
    pub degree : degree_of ideal.weights (before ++ shared ++ behind) ≡ d
    pub is : v ≡ vec (obstruction_row ideal.modulus first behind before second)

  pub data IsBelow (d : ℕ) (w : List ℕ) (v : Vd) : Type 0 where
    smaller : (x : List ℕ) → IsLetterwiseGreater w x → IsLowerProduct ideal st d d x v → IsBelow d w v
    row : IsRow d v → IsBelow d w v

  abbrev pub less : Vd → Vd → Vd
  less a b y = Kd.add (a y) (Kd.mul (Kd.neg Kd.one) (b y))

  -- a vector less itself is 0 at each word
  pub less_itself : (a : Vd) (y : List ℕ) → less a a y ≡ Kd.zero
  less_itself a y = ap (Kd.add (a y)) (Kd.mul_comm (Kd.neg Kd.one) (a y) ∙ mul_neg Kd (a y) Kd.one ∙ ap Kd.neg (Kd.mul_one (a y))) ∙ Kd.add_neg (a y)

  -- reduced elements with one leading word are one
  pub reduced_one : (e : ℕ) (f g : List Term) (w : List ℕ) → IsReduced ideal e f → IsReduced ideal e g →
      lead_of f ≡ Some w → lead_of g ≡ Some w → f ≡ g
  reduced_one e f g w hf hg lf lg =
      let b = has_one_basis ideal st e in
      elim (pair_cases HasGreaterLead b.value b.holds.falling f g ((b.holds.exactly f).1 hf) ((b.holds.exactly g).1 hg)) [
        | inl is ↦ is
        | inr (inl h) ↦ absurd (letterwise-apart h.of_f h.of_g h.greater (same_Some h.of_f h.of_g (sym h.leads_f ∙ lf ∙ sym lg ∙ h.leads_g)))
        | inr (inr h) ↦ absurd (letterwise-apart h.of_f h.of_g h.greater (same_Some h.of_f h.of_g (sym h.leads_f ∙ lg ∙ sym lf ∙ h.leads_g)))
      ]

  -- the leading word of a lower element has the degree of the element
  pub lower_degree : (d : ℕ) (g : List Term) (m : List ℕ) → (l : IsLower ideal st d g) → lead_of g ≡ Some m → degree_of ideal.weights m ≡ l.degree
  lower_degree d [] m l e = cc e
  lower_degree d (t ∷ g) m l e = let is : t.word ≡ m = cc e in ap (degree_of ideal.weights) (sym is)
      ∙ All-head (λ (s : Term). degree_of ideal.weights s.word ≡ l.degree) t g l.reduced.inside.element.degree

  -- the leading word of a lower element is over the letters
  pub lead_over : (d : ℕ) (g : List Term) (m : List ℕ) → IsLower ideal st d g → lead_of g ≡ Some m → IsOver (length ideal.weights) m
  lead_over d [] m l e = cc e
  lead_over d (t ∷ g) m l e = let is : t.word ≡ m = cc e in subst (IsOver (length ideal.weights)) is
      (All-head (λ (s : Term). IsOver (length ideal.weights) s.word) t g l.reduced.inside.element.letters)

  -- a lead is no proper factor of another
  no_factor : (d : ℕ) (g h : List Term) (m n : List ℕ) → IsLower ideal st d g → IsLower ideal st d h →
      lead_of g ≡ Some m → lead_of h ≡ Some n → IsFactor n m → n ≢ m → ⊥
  no_factor d g h m n lg lh eg eh i ne = (lg.reduced.minimal m eg).none_inside n (record { inside = i; other = ne }) (lh.reduced.minimal n eh).leading

  -- sums over smaller terms, one beside the other
  module _ (d : ℕ) (w : List ℕ) where
    abbrev Below : Vd → Type 0
    Below v = IsInSpan Kd (List ℕ) (IsBelow d w) v

    -- a multiple of one that is smaller before a sum of these
    scaled_more : (a : ℕ) (f rest : List Term) → IsBelow d w (vec f) → Below (vec rest) → Below (vec (scaled a f ++ rest))
    scaled_more a f rest one more =
        same_span Kd (List ℕ) _ (λ y. Kd.add (Kd.mul (vectors.of ideal.modulus st.modulus a) (vec f y)) (vec rest y)) _
        (λ y. sym (vector_of-append ideal.modulus st.modulus (scaled a f) rest y
        ∙ ap (λ (n : Residue ideal.modulus). Kd.add n (vec rest y)) (vector_of-scaled ideal.modulus st.modulus a f y)))
        (IsInSpan-add Kd (List ℕ) _ _ _ (IsInSpan-scaled Kd (List ℕ) _ (vectors.of ideal.modulus st.modulus a) (vec f)
        (IsInSpan-one Kd (List ℕ) _ (vec f) one)) more)

    none_below : Below (vec [])
    none_below = same_span Kd (List ℕ) _ (λ y. Kd.zero) _ (λ y. same_residue ideal.modulus _ _ refl) (IsInSpan-zero Kd (List ℕ) _)

    second_below : (u c v : List ℕ) (g : List Term) (h : List Term) →
        ((t : Term) → Contains h t → IsBelow d w (vec (product u g (c ++ t.word ++ v)))) → Below (vec (by_second u c v g h))
    second_below u c v g [] all = none_below
    second_below u c v g (t ∷ h) all = scaled_more t.coefficient (product u g (c ++ t.word ++ v)) (by_second u c v g h) (all t (Contains-first t h))
        (second_below u c v g h (λ s m. all s (Contains-more t h s m)))

    first_below : (u c v : List ℕ) (g : List Term) (h : List Term) →
        ((s : Term) → Contains g s → IsBelow d w (vec (product (u ++ s.word ++ c) h v))) → Below (vec (by_first u c v g h))
    first_below u c v [] h all = none_below
    first_below u c v (s ∷ g) h all = scaled_more s.coefficient (product (u ++ s.word ++ c) h v) (by_first u c v g h) (all s (Contains-first s g))
        (first_below u c v g h (λ r m. all r (Contains-more s g r m)))

    -- a + x and b + y are one, so a - b is y - x
    moved : (a b x y : Residue ideal.modulus) → Kd.add a x ≡ Kd.add b y → Kd.add y (Kd.mul (Kd.neg Kd.one) x) ≡ Kd.add a (Kd.mul (Kd.neg Kd.one) b)
    moved a b x y e =
        let minus : (c : Residue ideal.modulus) → Kd.mul (Kd.neg Kd.one) c ≡ Kd.neg c = λ c. Kd.mul_comm (Kd.neg Kd.one) c ∙ mul_neg Kd c Kd.one
        ∙ ap Kd.neg (Kd.mul_one c) in
        let left : Kd.add (Kd.add b y) (Kd.add (Kd.neg b) (Kd.neg x)) ≡ Kd.add y (Kd.neg x) =
        ap (λ (n : Residue ideal.modulus). Kd.add n (Kd.add (Kd.neg b) (Kd.neg x))) (Kd.add_comm b y) ∙ Kd.add_assoc y b (Kd.add (Kd.neg b) (Kd.neg x))
        ∙ ap (Kd.add y) (sym (Kd.add_assoc b (Kd.neg b) (Kd.neg x)) ∙ ap (λ (n : Residue ideal.modulus). Kd.add n (Kd.neg x)) (Kd.add_neg b)
        ∙ zero_add Kd (Kd.neg x)) in
        let right : Kd.add (Kd.add a x) (Kd.add (Kd.neg b) (Kd.neg x)) ≡ Kd.add a (Kd.neg b) =
        Kd.add_assoc a x (Kd.add (Kd.neg b) (Kd.neg x)) ∙ ap (Kd.add a)
        (add_left_comm Kd x (Kd.neg b) (Kd.neg x) ∙ ap (Kd.add (Kd.neg b)) (Kd.add_neg x) ∙ Kd.add_zero (Kd.neg b)) in
        ap (Kd.add y) (minus x) ∙ sym left ∙ ap (λ (n : Residue ideal.modulus). Kd.add n (Kd.add (Kd.neg b) (Kd.neg x))) (sym e) ∙ right
        ∙ ap (Kd.add a) (sym (minus b))

  one_times : (c : ℕ) (a : Residue ideal.modulus) → c ≡ 1 → Kd.mul (vectors.of ideal.modulus st.modulus c) a ≡ a
  one_times c a e = ap (λ (n : ℕ). Kd.mul (vectors.of ideal.modulus st.modulus n) a) e ∙ Kd.mul_comm Kd.one a ∙ Kd.mul_one a

  -- two factors apart
  apart_terms : (d : ℕ) (w u c v : List ℕ) (s t : Term) (g h : List Term) → (lg : IsLower ideal st d (s ∷ g)) → (lh : IsLower ideal st d (t ∷ h))
      → IsOver (length ideal.weights) u → IsOver (length ideal.weights) c → IsOver (length ideal.weights) v → w ≡ u ++ s.word ++ (c ++ t.word ++ v)
      → degree_of ideal.weights w ≡ d
      → IsInSpan Kd (List ℕ) (IsBelow d w) (less (vec (product u (s ∷ g) (c ++ t.word ++ v))) (vec (product (u ++ s.word ++ c) (t ∷ h) v)))
  apart_terms d w u c v s t g h lg lh hu hc hv is deg =
      let eg = lg.reduced.inside.element in
      let eh = lh.reduced.inside.element in
      let sizes = sym deg ∙ ap (degree_of ideal.weights) is in
      let size = degree_of-round ideal.weights u s.word (c ++ t.word ++ v) in
      let inner = degree_of-round ideal.weights c t.word v in
      let ds = All-head (λ (r : Term). degree_of ideal.weights r.word ≡ lg.degree) s g eg.degree in
      let dt = All-head (λ (r : Term). degree_of ideal.weights r.word ≡ lh.degree) t h eh.degree in
      let os = All-head (λ (r : Term). IsOver (length ideal.weights) r.word) s g eg.letters in
      let ot = All-head (λ (r : Term). IsOver (length ideal.weights) r.word) t h eh.letters in
      let over_mid : (x y z : List ℕ) → IsOver (length ideal.weights) x → IsOver (length ideal.weights) y → IsOver (length ideal.weights) z →
      IsOver (length ideal.weights) (x ++ y ++ z) =
      λ x y z a b e. All-append (λ n. n < length ideal.weights) (x ++ y) z (All-append (λ n. n < length ideal.weights) x y a b) e in
      let x_below = second_below d w u c v (s ∷ g) h (λ r m.
      let dr = All-contains (λ (r : Term). degree_of ideal.weights r.word ≡ lh.degree) h r
      (All-tail (λ (r : Term). degree_of ideal.weights r.word ≡ lh.degree) t h eh.degree) m in
      let orr = All-contains (λ (r : Term). IsOver (length ideal.weights) r.word) h r
      (All-tail (λ (r : Term). IsOver (length ideal.weights) r.word) t h eh.letters) m in
      let gr = All-contains (λ (r : Term). IsLetterwiseGreater t.word r.word) h r
      (AllPairs-first (λ (q r : Term). IsLetterwiseGreater q.word r.word) t h eh.form.falling) m in
      let greater = letterwise-product ideal.weights st.are_weights (u ++ s.word ++ c) t.word r.word v (dt ∙ sym dr) gr in
      smaller (u ++ s.word ++ (c ++ r.word ++ v))
      (subst (λ (z : List ℕ). IsLetterwiseGreater w z) (sym (round_words u c v s.word r.word))
      (subst (λ (z : List ℕ). IsLetterwiseGreater z ((u ++ s.word ++ c) ++ r.word ++ v)) (sym (is ∙ round_words u c v s.word t.word))
      greater))
      (record {
        element = s ∷ g;
        lower = lg;
        lead = s.word;
        is_lead = refl;
        left = u;
        right = c ++ r.word ++ v;
        left_over = hu;
        right_over = over_mid c r.word v hc orr hv;
        word = refl;
        degree = omega (arith, sizes, size, inner, ds, dt, dr, degree_of-round ideal.weights c r.word v);
        is = refl;
      })) in
      let y_below = first_below d w u c v g (t ∷ h) (λ r m.
      let dr = All-contains (λ (r : Term). degree_of ideal.weights r.word ≡ lg.degree) g r
      (All-tail (λ (r : Term). degree_of ideal.weights r.word ≡ lg.degree) s g eg.degree) m in
      let orr = All-contains (λ (r : Term). IsOver (length ideal.weights) r.word) g r
      (All-tail (λ (r : Term). IsOver (length ideal.weights) r.word) s g eg.letters) m in
      let gr = All-contains (λ (r : Term). IsLetterwiseGreater s.word r.word) g r
      (AllPairs-first (λ (q r : Term). IsLetterwiseGreater q.word r.word) s g eg.form.falling) m in
      let greater = letterwise-product ideal.weights st.are_weights u s.word r.word (c ++ t.word ++ v) (ds ∙ sym dr) gr in
      smaller ((u ++ r.word ++ c) ++ t.word ++ v)
      (subst (λ (z : List ℕ). IsLetterwiseGreater w z) (round_words u c v r.word t.word)
      (subst (λ (z : List ℕ). IsLetterwiseGreater z (u ++ r.word ++ (c ++ t.word ++ v))) (sym is) greater))
      (record {
        element = t ∷ h;
        lower = lh;
        lead = t.word;
        is_lead = refl;
        left = u ++ r.word ++ c;
        right = v;
        left_over = over_mid u r.word c hu orr hc;
        right_over = hv;
        word = refl;
        degree = omega (arith, sizes, size, inner, ds, dt, dr, degree_of-round ideal.weights u r.word c);
        is = refl;
      })) in
      same_span Kd (List ℕ) _ (λ y. Kd.add (vec (by_first u c v g (t ∷ h)) y) (Kd.mul (Kd.neg Kd.one) (vec (by_second u c v (s ∷ g) h) y))) _
      (λ y. moved d w (vec (product u (s ∷ g) (c ++ t.word ++ v)) y) (vec (product (u ++ s.word ++ c) (t ∷ h) v) y)
      (vec (by_second u c v (s ∷ g) h) y) (vec (by_first u c v g (t ∷ h)) y)
      (sym (vector_of-append ideal.modulus st.modulus (scaled t.coefficient (product u (s ∷ g) (c ++ t.word ++ v))) (by_second u c v (s ∷ g) h) y
      ∙ ap (λ (n : Residue ideal.modulus). Kd.add n (vec (by_second u c v (s ∷ g) h) y))
      (vector_of-scaled ideal.modulus st.modulus t.coefficient (product u (s ∷ g) (c ++ t.word ++ v)) y
      ∙ one_times t.coefficient (vec (product u (s ∷ g) (c ++ t.word ++ v)) y) lh.reduced.monic))
      ∙ same_residue ideal.modulus (vec (by_second u c v (s ∷ g) (t ∷ h)) y) (vec (by_first u c v (s ∷ g) (t ∷ h)) y)
      (ap (λ (n : ℕ). n % ideal.modulus) (both_ways u c v (s ∷ g) (t ∷ h) y))
      ∙ vector_of-append ideal.modulus st.modulus (scaled s.coefficient (product (u ++ s.word ++ c) (t ∷ h) v)) (by_first u c v g (t ∷ h)) y
      ∙ ap (λ (n : Residue ideal.modulus). Kd.add n (vec (by_first u c v g (t ∷ h)) y))
      (vector_of-scaled ideal.modulus st.modulus s.coefficient (product (u ++ s.word ++ c) (t ∷ h) v) y
      ∙ one_times s.coefficient (vec (product (u ++ s.word ++ c) (t ∷ h) v) y) lg.reduced.monic)))
      (IsInSpan-add Kd (List ℕ) _ _ _ y_below (IsInSpan-scaled Kd (List ℕ) _ (Kd.neg Kd.one) (vec (by_second u c v (s ∷ g) h)) x_below))

  -- the leading word of a lower product of degree e has degree e
  pub lower_word : (d e : ℕ) (x : List ℕ) (f : Vd) → IsLowerProduct ideal st d e x f → degree_of ideal.weights x ≡ e
  lower_word d e x f h = ap (degree_of ideal.weights) h.word ∙ degree_of-round ideal.weights h.left h.lead h.right
      ∙ ap (λ (n : ℕ). degree_of ideal.weights h.left + n + degree_of ideal.weights h.right) (lower_degree d h.element h.lead h.lower h.is_lead)
      ∙ h.degree

  -- a lower product of degree e with words put round it, of degree d together, is a lower product of degree d
  pub shift_lower : (d e : ℕ) (u v x : List ℕ) (f : Vd) → IsOver (length ideal.weights) u → IsOver (length ideal.weights) v →
      degree_of ideal.weights u + e + degree_of ideal.weights v ≡ d
      → IsLowerProduct ideal st d e x f → IsLowerProduct ideal st d d (u ++ x ++ v) (shifted ideal.modulus st.modulus u v f)
  shift_lower d e u v x f hu hv deg h = record {
    element = h.element;
    lower = h.lower;
    lead = h.lead;
    is_lead = h.is_lead;
    left = u ++ h.left;
    right = h.right ++ v;
    left_over = All-append (λ n. n < length ideal.weights) u h.left hu h.left_over;
    right_over = All-append (λ n. n < length ideal.weights) h.right v h.right_over hv;
    word = ap (λ (z : List ℕ). u ++ z ++ v) h.word ∙ simp append_assoc refl;
    degree = omega (arith, deg, h.degree, degree_of-append ideal.weights u h.left, degree_of-append ideal.weights h.right v);
    is = ap (shifted ideal.modulus st.modulus u v) h.is ∙ sym (vector_of-product ideal.modulus st.modulus u v (product h.left h.element h.right))
        ∙ ap vec (product-product u h.left h.element h.right v);
  }

  -- two factors that overlap
  module _ (d : ℕ) (g h : List Term) (lg : IsLower ideal st d g) (lh : IsLower ideal st d h) (a c b : List ℕ)
      (eg : lead_of g ≡ Some (a ++ c)) (eh : lead_of h ≡ Some (c ++ b)) (na : a ≢ []) (nc : c ≢ []) (nb : b ≢ []) where
    abbrev whole : List ℕ
    whole = a ++ c ++ b

    over_lead : IsOver (length ideal.weights) (a ++ c)
    over_lead = lead_over d g (a ++ c) lg eg

    over_back : IsOver (length ideal.weights) (c ++ b)
    over_back = lead_over d h (c ++ b) lh eh

    over_a : IsOver (length ideal.weights) a
    over_a = All-front (λ n. n < length ideal.weights) a c over_lead

    over_b : IsOver (length ideal.weights) b
    over_b = All-back (λ n. n < length ideal.weights) c b over_back

    first_product : IsLowerProduct ideal st d (degree_of ideal.weights whole) whole (vec (product [] g b))
    first_product = record {
      element = g;
      lower = lg;
      lead = a ++ c;
      is_lead = eg;
      left = [];
      right = b;
      left_over = All-nil (λ n. n < length ideal.weights);
      right_over = over_b;
      word = refl;
      degree = omega (arith, lower_degree d g (a ++ c) lg eg, degree_of-append ideal.weights (a ++ c) b);
      is = refl;
    }

    second_product : IsLowerProduct ideal st d (degree_of ideal.weights whole) whole (vec (product a h []))
    second_product = record {
      element = h;
      lower = lh;
      lead = c ++ b;
      is_lead = eh;
      left = a;
      right = [];
      left_over = over_a;
      right_over = All-nil (λ n. n < length ideal.weights);
      word = append_assoc a c b ∙ sym (append-nil (a ++ (c ++ b)));
      degree = omega (
        arith,
        lower_degree d h (c ++ b) lh eh,
        degree_of-append ideal.weights (a ++ c) b,
        degree_of-append ideal.weights a c,
        degree_of-append
            ideal.weights c b,
      );
      is = refl;
    }

    -- the row, as a vector
    abbrev difference : Vd
    difference y = Kd.add (Kd.mul (Kd.neg Kd.one) (vec (product a h []) y)) (vec (product [] g b) y)

    row_of : degree_of ideal.weights whole ≡ d → IsRow d (vec (obstruction_row ideal.modulus g b a h))
    row_of deg = record {
      first = g;
      second = h;
      first_lower = lg;
      second_lower = lh;
      before = a;
      shared = c;
      behind = b;
      some_before = na;
      some_shared = nc;
      some_behind = nb;
      first_lead = eg;
      second_lead = eh;
      degree = deg;
      is = refl;
    }

    row_difference : (y : List ℕ) → vec (obstruction_row ideal.modulus g b a h) y ≡ less (vec (product [] g b)) (vec (product a h [])) y
    row_difference y =
        let one : 1 % ideal.modulus ≡ 1 = mod-eq_of_lt {n = 1} {m = ideal.modulus} (omega (arith, st.modulus.two_or_more)) in
        let neg : vectors.of ideal.modulus st.modulus (ideal.modulus - 1) ≡ Kd.neg Kd.one = same_residue ideal.modulus
        (vectors.of ideal.modulus st.modulus (ideal.modulus - 1)) (Kd.neg Kd.one)
        (ap (λ (n : ℕ). (ideal.modulus - n) % ideal.modulus) (sym one)) in
        vector_of-append ideal.modulus st.modulus (product [] g b) (scaled (ideal.modulus - 1) (product a h [])) y
        ∙ ap (Kd.add (vec (product [] g b) y)) (vector_of-scaled ideal.modulus st.modulus (ideal.modulus - 1) (product a h []) y
        ∙ ap (λ (n : Residue ideal.modulus). Kd.mul n (vec (product a h []) y)) neg)

    member_difference : IsMemberVector ideal st.modulus st (degree_of ideal.weights whole) difference
    unfolding second_product first_product
    member_difference =
        IsInSpan-add Kd (List ℕ) _ (λ y. Kd.mul (Kd.neg Kd.one) (vec (product a h []) y)) (vec (product [] g b))
        (IsInSpan-scaled Kd (List ℕ) _ (Kd.neg Kd.one) (vec (product a h []))
        (span_from_ideal ideal st.modulus (degree_of ideal.weights whole) (product a h [])
        (lower_inside ideal st d (degree_of ideal.weights whole) whole (vec (product a h [])) second_product)))
        (span_from_ideal ideal st.modulus (degree_of ideal.weights whole) (product [] g b)
        (lower_inside ideal st d (degree_of ideal.weights whole) whole (vec (product [] g b)) first_product))

    -- where lower elements g and h have the leading words a * c and c * b, g * b - a * h is in the span of the products of its degree
    pub obstruction_member : IsMemberVector ideal st.modulus st (degree_of ideal.weights whole) (vec (obstruction_row ideal.modulus g b a h))
    obstruction_member = same_span Kd (List ℕ) _ difference _ (λ y. Kd.add_comm (Kd.mul (Kd.neg Kd.one) (vec (product a h []) y))
        (vec (product [] g b) y) ∙ sym (row_difference y)) member_difference

    difference_above : (y : List ℕ) → IsLetterwiseGreater y whole → difference y ≡ Kd.zero
    difference_above y gr =
        ap₂ (λ (m n : Residue ideal.modulus). Kd.add (Kd.mul (Kd.neg Kd.one) m) n)
        (lower_above ideal st d (degree_of ideal.weights whole) whole y (vec (product a h [])) second_product gr)
        (lower_above ideal st d (degree_of ideal.weights whole) whole y (vec (product [] g b)) first_product gr)
        ∙ Kd.add_zero (Kd.mul (Kd.neg Kd.one) Kd.zero) ∙ mul_zero Kd (Kd.neg Kd.one)

    difference_here : difference whole ≡ Kd.zero
    difference_here =
        ap₂ (λ (m n : Residue ideal.modulus). Kd.add (Kd.mul (Kd.neg Kd.one) m) n)
        (lower_one ideal st d (degree_of ideal.weights whole) whole (vec (product a h [])) second_product)
        (lower_one ideal st d (degree_of ideal.weights whole) whole (vec (product [] g b)) first_product)
        ∙ ap (λ (n : Residue ideal.modulus). Kd.add n Kd.one) (Kd.mul_one (Kd.neg Kd.one)) ∙ Kd.add_comm (Kd.neg Kd.one) Kd.one ∙ Kd.add_neg Kd.one

    module _ (u v : List ℕ) (hu : IsOver (length ideal.weights) u) (hv : IsOver (length ideal.weights) v)
        (deg : degree_of ideal.weights u + degree_of ideal.weights whole + degree_of ideal.weights v ≡ d) where
      abbrev w : List ℕ
      w = u ++ whole ++ v

      shifted_difference : (y : List ℕ) → shifted ideal.modulus st.modulus u v difference y ≡ less (vec (product u g (b ++ v))) (vec (product (u ++ a) h v)) y
      shifted_difference y =
          shifted-linear ideal.modulus st.modulus u v (Kd.neg Kd.one) (vec (product a h [])) (vec (product [] g b)) y
          ∙ ap₂ (λ (m n : Vd). Kd.add (Kd.mul (Kd.neg Kd.one) (m y)) (n y))
          (sym (vector_of-product ideal.modulus st.modulus u v (product a h [])) ∙ ap vec (product-product u a h [] v))
          (sym (vector_of-product ideal.modulus st.modulus u v (product [] g b)) ∙ ap vec
          (product-product u [] g b v ∙ ap (λ (z : List ℕ). product z g (b ++ v)) (append-nil u)))
          ∙ Kd.add_comm (Kd.mul (Kd.neg Kd.one) (vec (product (u ++ a) h v) y)) (vec (product u g (b ++ v)) y)

      inner_overlap : degree_of ideal.weights whole < d → IsInSpan Kd (List ℕ) (IsBelow d w) (less (vec (product u g (b ++ v))) (vec (product (u ++ a) h v)))
      inner_overlap lt =
          let e = degree_of ideal.weights whole in
          let over_whole : IsOver (length ideal.weights) whole = All-append (λ n. n < length ideal.weights) (a ++ c) b over_lead over_b in
          let at = about (words_of_degree ideal.weights e) whole (listed_word ideal.weights st.are_weights whole over_whole) in
          let falling = subst (AllPairs IsLetterwiseGreater) at.is (words_of_degree-falling ideal.weights st.are_weights e) in
          let rest = represented_from ideal st d e lt at.post (at.pre ++ whole ∷ [])
          (at.is ∙ sym (append_assoc at.pre (whole ∷ []) at.post)) difference member_difference
          (λ y m. elim (Contains-append_cases at.pre (whole ∷ []) y m) [
            | inl k ↦ difference_above y (before_it IsLetterwiseGreater at.pre whole at.post falling y k)
            | inr k ↦ elim (Contains-cases whole [] y k) [
              | inl is ↦ ap difference (sym is) ∙ difference_here
              | inr k ↦ absurd (Contains-none y k)
            ]
          ]) in
          same_span Kd (List ℕ) _ (shifted ideal.modulus st.modulus u v difference) _ shifted_difference
          (span_shifted ideal.modulus st.modulus u v (IsLowerAmong ideal st d e at.post) (IsBelow d w)
          (λ f q. smaller (u ++ q.0 ++ v)
          (letterwise-product ideal.weights st.are_weights u whole q.0 v (sym (lower_word d e q.0 f q.2)) (behind_it at.pre whole at.post falling q.0 q.1))
          (shift_lower d e u v q.0 f hu hv deg q.2)) difference rest)

      outer_overlap : u ≡ [] → v ≡ [] → IsInSpan Kd (List ℕ) (IsBelow d w) (less (vec (product u g (b ++ v))) (vec (product (u ++ a) h v)))
      outer_overlap nu nv =
          let e : degree_of ideal.weights whole ≡ d = omega (arith, deg, ap (degree_of ideal.weights) nu, ap (degree_of ideal.weights) nv) in
          let first : product [] g b ≡ product u g (b ++ v) = ap₂ (λ (x z : List ℕ). product x g z) (sym nu)
          (sym (append-nil b) ∙ ap (λ (z : List ℕ). b ++ z) (sym nv)) in
          let second : product a h [] ≡ product (u ++ a) h v = ap₂ (λ (x z : List ℕ). product (x ++ a) h z) (sym nu) (sym nv) in
          same_span Kd (List ℕ) _ (vec (obstruction_row ideal.modulus g b a h)) _
          (λ y. row_difference y ∙ ap₂ (λ (f k : List Term). less (vec f) (vec k) y) first second)
          (IsInSpan-one Kd (List ℕ) _ (vec (obstruction_row ideal.modulus g b a h)) (row (row_of e)))

      -- so the products of g and h at one word u * a * c * b * v of degree d differ by a sum of multiples of smaller products and rows
      pub overlapping : IsInSpan Kd (List ℕ) (IsBelow d w) (less (vec (product u g (b ++ v))) (vec (product (u ++ a) h v)))
      overlapping = elim (cases_lt (degree_of ideal.weights whole) d) [
        | inl lt ↦ inner_overlap lt
        | inr ge ↦ outer_overlap (empty_word u (omega (arith, deg, ge))) (empty_word v (omega (arith, deg, ge)))
      ]
        where
          empty_word : (z : List ℕ) → degree_of ideal.weights z ≡ 0 → z ≡ []
          empty_word z e = nil_from_length z (omega (arith, e, length-le-degree_of ideal.weights st.are_weights z))

  apart_any : (d : ℕ) (w u c v m n : List ℕ) (g h : List Term) → IsLower ideal st d g → IsLower ideal st d h →
      lead_of g ≡ Some m → lead_of h ≡ Some n
      → IsOver (length ideal.weights) u → IsOver (length ideal.weights) c → IsOver (length ideal.weights) v → w ≡ u ++ m ++ (c ++ n ++ v)
      → degree_of ideal.weights w ≡ d
      → IsInSpan Kd (List ℕ) (IsBelow d w) (less (vec (product u g (c ++ n ++ v))) (vec (product (u ++ m ++ c) h v)))
  apart_any d w u c v m n [] h lg lh eg eh hu hc hv is deg = cc eg
  apart_any d w u c v m n (s ∷ g) [] lg lh eg eh hu hc hv is deg = cc eh
  apart_any d w u c v m n (s ∷ g) (t ∷ h) lg lh eg eh hu hc hv is deg =
      let ms = same_Some s.word m eg in
      let ns = same_Some t.word n eh in
      same_span Kd (List ℕ) _ (less (vec (product u (s ∷ g) (c ++ t.word ++ v))) (vec (product (u ++ s.word ++ c) (t ∷ h) v))) _
      (λ y. ap₂ (λ (x z : List ℕ). less (vec (product u (s ∷ g) (c ++ z ++ v))) (vec (product (u ++ x ++ c) (t ∷ h) v)) y) ms ns)
      (apart_terms d w u c v s t g h lg lh hu hc hv (is ∙ ap₂ (λ (x z : List ℕ). u ++ x ++ (c ++ z ++ v)) (sym ms) (sym ns)) deg)

  -- of two products with one leading word, the one whose lead stands no later, less the other, is a sum of smaller ones and rows
  pub differ : (d : ℕ) (w : List ℕ) (a b : Vd) (h : IsLowerProduct ideal st d d w a) (k : IsLowerProduct ideal st d d w b) → length h.left ≤ length k.left
      → IsInSpan Kd (List ℕ) (IsBelow d w) (less a b)
  differ d w a b h k le =
      same_span Kd (List ℕ) _ (less (vec (product h.left h.element h.right)) (vec (product k.left k.element k.right))) _
      (λ y. ap₂ (λ (f g : Vd). less f g y) (sym h.is) (sym k.is))
      (by_case (meet h.left h.lead h.right k.left k.lead k.right (sym (append_assoc h.left h.lead h.right) ∙ sym h.word ∙ k.word
      ∙ append_assoc k.left k.lead k.right) le))
    where
      same_products : h.lead ≡ k.lead → k.left ≡ h.left → k.right ≡ h.right →
          IsInSpan Kd (List ℕ) (IsBelow d w) (less (vec (product h.left h.element h.right)) (vec (product k.left k.element k.right)))
      same_products lead left right =
          let dh = lower_degree d h.element h.lead h.lower h.is_lead in
          let dk = lower_degree d k.element k.lead k.lower k.is_lead in
          let one : h.element ≡ k.element = reduced_one h.lower.degree h.element k.element h.lead h.lower.reduced
          (subst (λ (n : ℕ). IsReduced ideal n k.element) (sym dk ∙ ap (degree_of ideal.weights) (sym lead) ∙ dh) k.lower.reduced)
          h.is_lead (k.is_lead ∙ ap Some (sym lead)) in
          let same : product h.left h.element h.right ≡ product k.left k.element k.right =
          ap (λ (f : List Term). product h.left f h.right) one ∙ ap₂ (λ (x z : List ℕ). product x k.element z) (sym left) (sym right) in
          same_span Kd (List ℕ) _ (λ y. Kd.zero) _ (λ y. sym (ap (λ (f : List Term). less (vec f) (vec (product k.left k.element k.right))
          y) same ∙ less_itself (vec (product k.left k.element k.right)) y)) (IsInSpan-zero Kd (List ℕ) _)

      by_case : IsMet h.left h.lead h.right k.left k.lead k.right →
          IsInSpan Kd (List ℕ) (IsBelow d w) (less (vec (product h.left h.element h.right)) (vec (product k.left k.element k.right)))
      by_case (apart c left right) =
          let over = subst (IsOver (length ideal.weights)) right h.right_over in
          let over_c = All-front (λ n. n < length ideal.weights) c k.lead (All-front (λ n. n < length ideal.weights) (c ++ k.lead) k.right over) in
          same_span Kd (List ℕ) _ (less (vec (product h.left h.element (c ++ k.lead ++ k.right))) (vec (product (h.left ++ h.lead ++ c) k.element k.right))) _
          (λ y. ap₂ (λ (x z : List ℕ). less (vec (product h.left h.element z)) (vec (product x k.element k.right)) y) (sym left) (sym right))
          (apart_any d w h.left c k.right h.lead k.lead h.element k.element h.lower k.lower h.is_lead k.is_lead h.left_over over_c
          k.right_over (h.word ∙ ap (λ (z : List ℕ). h.left ++ h.lead ++ z) right) (lower_word d d w a h))
      by_case (inside s t lead left right) = elim (cases_Bool (bytes_eq k.lead h.lead)) [
        | inl is ↦
            let e = (bytes_eq-Decides k.lead h.lead).0 is in
            let sizes = ap length lead ∙ length-append (s ++ k.lead) t in
            let none_s : s ≡ [] = nil_from_length s (omega (arith, sizes, length-append s k.lead, ap length e)) in
            let none_t : t ≡ [] = nil_from_length t (omega (arith, sizes, length-append s k.lead, ap length e)) in
            same_products (sym e) (left ∙ ap (λ (z : List ℕ). h.left ++ z) none_s ∙ append-nil h.left) (right ∙ ap (λ (z : List ℕ). z ++ h.right) none_t)
        | inr other ↦ absurd (no_factor d h.element k.element h.lead k.lead h.lower k.lower h.is_lead k.is_lead
            (record { before = s; after = t; joined = lead }) (λ e. (let q : bytes_eq k.lead h.lead ≡ true =
            (bytes_eq-Decides k.lead h.lead).1 e in cc)))
      ]
      by_case (starts b some left lead right) =
          absurd (no_factor d k.element h.element k.lead h.lead k.lower h.lower k.is_lead h.is_lead (record { before = []; after = b; joined = lead })
          (λ e. some (nil_from_length b (omega (arith, ap length e, ap length lead, length-append h.lead b)))))
      by_case (overlap x c z nx nc nz left lead_h lead_k right) =
          let word : w ≡ h.left ++ (x ++ c ++ z) ++ k.right = h.word ∙ ap₂ (λ (m r : List ℕ). h.left ++ m ++ r) lead_h right ∙ simp append_assoc refl in
          let deg = sym (degree_of-round ideal.weights h.left (x ++ c ++ z) k.right) ∙ ap (degree_of ideal.weights) (sym word) ∙ lower_word d d w a h in
          subst (λ (q : List ℕ). IsInSpan Kd (List ℕ) (IsBelow d q) (less (vec (product h.left h.element h.right))
          (vec (product k.left k.element k.right)))) (sym word)
          (same_span Kd (List ℕ) _ (less (vec (product h.left h.element (z ++ k.right))) (vec (product (h.left ++ x) k.element k.right))) _
          (λ y. ap₂ (λ (q r : List ℕ). less (vec (product h.left h.element r)) (vec (product q k.element k.right)) y) (sym left) (sym right))
          (overlapping d h.element k.element h.lower k.lower x c z (h.is_lead ∙ ap Some lead_h) (k.is_lead ∙ ap Some lead_k) nx nc nz h.left
          k.right h.left_over k.right_over deg))
