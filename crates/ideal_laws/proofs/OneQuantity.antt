-- Each quantity of a degree is one number.
use Rattle.std.proofs.Common.{ap₂, ◌≡◌, ◌+◌, ◌*◌, ◌%◌, ◌≤◌, ℕ, List, [], AllPairs, ◌∷◌, ◌++◌, length, take, drop, refl, sym, ap, ◌∙◌, inl, inr, arith}
use Rattle.std.proofs.Common.{subst, Option, Some, None}
use Rattle.std.specs.List.{AllZip, Contains, slice_get}
use Rattle.std.proofs.lemmas.Bool.{cases_lt}
use Rattle.std.proofs.lemmas.List.{take-append-drop, take-take}
use Rattle.std.proofs.lemmas.Option.{slice_get-get_or}
use Rattle.words.specs.Order.{IsLetterwiseGreater}
use Rattle.words.specs.Words.{IsFactor}
use Rattle.free_poly.specs.declared.term.Term.{Term}
use Rattle.free_poly.specs.Terms.{product, total_at}
use Rattle.free_poly.specs.Poly.{lead_of}
use Rattle.free_poly.proofs.NormalForms.{letterwise-trans, same_polynomials}
use Rattle.free_poly.proofs.Totals.{letterwise-apart}
use Rattle.ideal_laws.specs.Ideal.{Ideal}
use Rattle.ideal_laws.specs.declared.limits.LimitKind.TheVariants.{PlainWords, Rows, Columns, Entries, Cells, Terms, NormalWords}
use Rattle.ideal_laws.specs.Closure.{AreColumns, AreObstructions, HasReducer, IsFactorFree, IsReducer, Overlap, OverlapsBefore, obstruction_row, overlap_word}
use Rattle.ideal_laws.specs.Engine.{of_degree}
use Rattle.ideal_laws.specs.Quantities.{AreClosed, AreNormalWords, AreRows, HasOneQuantity, IsRowOf, contested_in, reducers_in, terms_in, words_of}
use Rattle.ideal_laws.proofs.Lower.{lists_factor_free}
use Rattle.ideal_laws.proofs.OneBasis.{bases_are_one}
use Rattle.ideal_laws.proofs.Search.{same_lists}

greater_itself : (w : List ℕ) → IsLetterwiseGreater w w → ⊥
greater_itself w g = letterwise-apart w w g refl

words_same : (xs ys : List (List ℕ)) (P : List ℕ → Type 0) → ((w : List ℕ) → Contains xs w → P w) → ((w : List ℕ) → P w → Contains xs w) →
    ((w : List ℕ) → Contains ys w → P w) → ((w : List ℕ) → P w → Contains ys w)
    → AllPairs IsLetterwiseGreater xs → AllPairs IsLetterwiseGreater ys → xs ≡ ys
words_same xs ys P a b c d h k = same_lists IsLetterwiseGreater greater_itself letterwise-trans xs ys h k (λ w m. d w (a w m)) (λ w m. b w (c w m))

before_itself : (o : Overlap) → OverlapsBefore o o → ⊥
before_itself o (inl g) = greater_itself (overlap_word o) g
before_itself o (inr e) = omega (arith, e.1)

-- an overlap that stands before one that stands before another stands before that
pub before_trans : (o q r : Overlap) → OverlapsBefore o q → OverlapsBefore q r → OverlapsBefore o r
before_trans o q r (inl g) (inl h) = inl (letterwise-trans (overlap_word o) (overlap_word q) (overlap_word r) g h)
before_trans o q r (inl g) (inr e) = inl (subst (IsLetterwiseGreater (overlap_word o)) e.0 g)
before_trans o q r (inr e) (inl h) = inl (subst (λ (w : List ℕ). IsLetterwiseGreater w (overlap_word r)) (sym e.0) h)
before_trans o q r (inr e) (inr f) = inr (e.0 ∙ f.0, omega (arith, e.1, f.1))

-- what an option has is one
pub some_one : {X : Type 0} (o : Option X) (a b : X) → o ≡ Some a → o ≡ Some b → a ≡ b
some_one o a b e f = cc

-- of two words that stand at one place the shorter is a factor of the longer
pub first_of : (v w r : List ℕ) → take (length v) r ≡ v → take (length w) r ≡ w → length v ≤ length w → IsFactor v w
first_of v w r e f le = record {
  before = [];
  after = drop (length v) w;
  joined = sym (ap (λ (x : List ℕ). x ++ drop (length v) w) (sym (ap (take (length v)) (sym f) ∙ take-take (length v) (length w) r le ∙ e))
      ∙ take-append-drop (length v) w);
}

module _ (ideal : Ideal) (G : List (List Term)) (d : ℕ) where
  overlaps_one : (os qs : List Overlap) → AreObstructions ideal.weights G d os → AreObstructions ideal.weights G d qs → os ≡ qs
  overlaps_one os qs a b = same_lists OverlapsBefore before_itself before_trans os qs a.ordered b.ordered
      (λ o m. (b.exactly o).1 ((a.exactly o).0 m)) (λ o m. (a.exactly o).1 ((b.exactly o).0 m))

  row_one : (o : Overlap) (f g : List Term) → IsRowOf ideal.modulus ideal.weights G d o f → IsRowOf ideal.modulus ideal.weights G d o g → f ≡ g
  row_one o f g a b =
      let first = some_one (slice_get G o.left) a.obstruction.first b.obstruction.first a.obstruction.at_left b.obstruction.at_left in
      let second = some_one (slice_get G o.right) a.obstruction.second b.obstruction.second a.obstruction.at_right b.obstruction.at_right in
      let row = ap₂ (λ (x y : List Term). obstruction_row ideal.modulus x o.behind o.before y) first second in
      same_polynomials ideal.modulus f g a.form b.form a.residues b.residues (λ w. a.same w ∙ ap (λ (r : List Term). total_at r w % ideal.modulus) row
      ∙ sym (b.same w))

  overlap_rows_one : (os : List Overlap) (fs gs : List (List Term)) → AllZip (IsRowOf ideal.modulus ideal.weights G d) os fs
      → AllZip (IsRowOf ideal.modulus ideal.weights G d) os gs → fs ≡ gs
  overlap_rows_one [] [] [] a b = refl
  overlap_rows_one [] [] (g ∷ gs) a b = absurd b
  overlap_rows_one [] (f ∷ fs) gs a b = absurd a
  overlap_rows_one (o ∷ os) [] gs a b = absurd a
  overlap_rows_one (o ∷ os) (f ∷ fs) [] a b = absurd b
  overlap_rows_one (o ∷ os) (f ∷ fs) (g ∷ gs) a b = ap₂ (λ (h : List Term) (hs : List (List Term)). h ∷ hs) (row_one o f g a.0 b.0)
      (overlap_rows_one os fs gs a.1 b.1)

  rows_one : (fs gs : List (List Term)) → AreRows ideal G d fs → AreRows ideal G d gs → fs ≡ gs
  rows_one fs gs a b =
      let same = overlaps_one b.overlaps a.overlaps b.are_obstructions a.are_obstructions in
      let each = subst (λ (os : List Overlap). AllZip (IsRowOf ideal.modulus ideal.weights G d) os b.overlap_rows) same b.each in
      a.joined ∙ ap (λ (hs : List (List Term)). of_degree ideal.weights d ideal.relations ++ hs)
      (overlap_rows_one a.overlaps a.overlap_rows b.overlap_rows a.each each) ∙ sym b.joined

module _ (G : List (List Term)) (free : IsFactorFree G) where
  columns_one : (words xs ys : List (List ℕ)) → AreColumns G words xs → AreColumns G words ys → xs ≡ ys
  columns_one words xs ys a b = words_same xs ys _ (λ w. (a.exactly w).0) (λ w. (a.exactly w).1) (λ w. (b.exactly w).0)
      (λ w. (b.exactly w).1) a.falling b.falling

  element_one : (g h : List Term) (v w r : List ℕ) → Contains G g → Contains G h → lead_of g ≡ Some v → lead_of h ≡ Some w →
      take (length v) r ≡ v → take (length w) r ≡ w → g ≡ h
  element_one g h v w r m n lg lh ev ew =
      let at_g = slice_get-get_or G m.0 g m.1 ∙ ap Some m.2 in
      let at_h = slice_get-get_or G n.0 h n.1 ∙ ap Some n.2 in
      let place : m.0 ≡ n.0 = elim (cases_lt (length w) (length v)) [
        | inl longer ↦ sym (free n.0 m.0 h g w v at_h at_g lh lg (first_of w v r ew ev (omega (arith, longer))))
        | inr le ↦ free m.0 n.0 g h v w at_g at_h lg lh (first_of v w r ev ew le)
      ] in
      some_one (slice_get G n.0) g h (subst (λ (k : ℕ). slice_get G k ≡ Some g) place at_g) at_h

  reducer_one : (w : List ℕ) (f g : List Term) → IsReducer G w f → IsReducer G w g → f ≡ g
  reducer_one w f g a b =
      let at : a.at ≡ b.at = omega (arith, a.least b.element b.lead b.at b.among b.is_lead b.here, b.least a.element a.lead a.at a.among a.is_lead a.here) in
      let moved : take (length b.lead) (drop a.at w) ≡ b.lead = ap (λ (n : ℕ). take (length b.lead) (drop n w)) at ∙ b.here.same in
      let element : a.element ≡ b.element = element_one a.element b.element a.lead b.lead (drop a.at w) a.among b.among a.is_lead b.is_lead a.here.same moved in
      let lead : a.lead ≡ b.lead = some_one (lead_of b.element) a.lead b.lead (ap lead_of (sym element) ∙ a.is_lead) b.is_lead in
      a.is ∙ (λ i. product (take (at i) w) (element i) (drop (at i + length (lead i)) w)) ∙ sym b.is

  reducers_one : (ws : List (List ℕ)) (rs ss : List (Option (List Term))) → AllZip (HasReducer G) ws rs → AllZip (HasReducer G) ws ss → rs ≡ ss
  reducers_one [] [] [] a b = refl
  reducers_one [] [] (s ∷ ss) a b = absurd b
  reducers_one [] (r ∷ rs) ss a b = absurd a
  reducers_one (w ∷ ws) [] ss a b = absurd a
  reducers_one (w ∷ ws) (r ∷ rs) [] a b = absurd b
  reducers_one (w ∷ ws) (r ∷ rs) (s ∷ ss) a b = ap₂ (λ (o : Option (List Term)) (os : List (Option (List Term))). o ∷ os)
      (option_one r s a.0 b.0) (reducers_one ws rs ss a.1 b.1)
    where
      option_one : (r s : Option (List Term)) → HasReducer G w r → HasReducer G w s → r ≡ s
      option_one None None h k = refl
      option_one None (Some g) h k = absurd (h k.element k.lead k.at k.among k.is_lead k.here)
      option_one (Some f) None h k = absurd (k h.element h.lead h.at h.among h.is_lead h.here)
      option_one (Some f) (Some g) h k = ap Some (reducer_one w f g h k)

  closed_one : (ideal : Ideal) (d : ℕ) (fs gs : List (List Term)) (xs ys : List (List ℕ)) (rs ss : List (Option (List Term)))
      → AreClosed ideal G d fs xs rs → AreClosed ideal G d gs ys ss → (fs ≡ gs) × (rs ≡ ss)
  closed_one ideal d fs gs xs ys rs ss a b =
      let rows = rows_one ideal G d fs gs a.are_rows b.are_rows in
      let columns = columns_one (words_of gs) xs ys (subst (λ (hs : List (List Term)). AreColumns G (words_of hs) xs) rows a.are_columns) b.are_columns in
      (rows, reducers_one ys rs ss (subst (λ (zs : List (List ℕ)). AllZip (HasReducer G) zs rs) columns a.are_reducers) b.are_reducers)

-- over the reduced basis of the degrees below d each quantity of degree d is at most one number
pub one_quantity : HasOneQuantity
one_quantity ideal st d below h PlainWords q r a b = a ∙ sym b
one_quantity ideal st d below h Rows q r a b =
    a.2 ∙ ap (λ (os : List Overlap). length (of_degree ideal.weights d ideal.relations) + length os)
    (overlaps_one ideal below.elements d a.0 b.0 a.1 b.1) ∙ sym b.2
one_quantity ideal st d below h Columns q r a b =
    let rows = rows_one ideal below.elements d a.0 b.0 a.2 b.2 in
    let columns = columns_one below.elements (lists_factor_free ideal st d below h) (words_of b.0) a.1 b.1
    (subst (λ (hs : List (List Term)). AreColumns below.elements (words_of hs) a.1) rows a.3) b.3 in
    a.4 ∙ ap length columns ∙ sym b.4
one_quantity ideal st d below h Entries q r a b =
    let e = closed_one below.elements (lists_factor_free ideal st d below h) ideal d a.0 b.0 a.1 b.1 a.2 b.2 a.3 b.3 in
    a.4 ∙ ap₂ (λ (fs : List (List Term)) (rs : List (Option (List Term))). terms_in fs + terms_in (reducers_in rs)) e.0 e.1 ∙ sym b.4
one_quantity ideal st d below h Cells q r a b =
    let e = closed_one below.elements (lists_factor_free ideal st d below h) ideal d a.0 b.0 a.1 b.1 a.2 b.2 a.3 b.3 in
    a.4 ∙ ap₂ (λ (fs : List (List Term)) (rs : List (Option (List Term))). length fs * contested_in rs) e.0 e.1 ∙ sym b.4
one_quantity ideal st d below h Terms q r a b =
    a.2 ∙ ap (λ (fs : List (List Term)). terms_in below.elements + terms_in fs) (bases_are_one ideal d a.0 b.0 a.1 b.1) ∙ sym b.2
one_quantity ideal st d below h NormalWords q r a b =
    let basis = bases_are_one ideal d a.0 b.0 a.2 b.2 in
    let own = subst (λ (fs : List (List Term)). AreNormalWords ideal.weights (below.elements ++ fs) d a.1) basis a.3 in
    a.4 ∙ ap length (words_same a.1 b.1 _ (λ w. (own.exactly w).0) (λ w. (own.exactly w).1) (λ w. (b.3.exactly w).0)
    (λ w. (b.3.exactly w).1) own.falling b.3.falling) ∙ sym b.4
