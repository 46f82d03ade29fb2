-- The places of the elements of a degree, and their leading words.
use Rattle.std.proofs.Common.{◌≡◌, ◌<◌, ◌≤◌, ℕ, zero, suc, List, [], ◌∷◌, length, get_or, refl, sym, inl, inr, arith, true, AllPairs, Some, subst}
use Rattle.std.specs.List.{count_by}
use Rattle.std.specs.Prelude.{ltb}
use Rattle.std.proofs.lemmas.Bool.{cases_lt, lt-ltb}
use Rattle.std.proofs.lemmas.List.Elements.{All-cons, All-nil}
use Rattle.words.specs.Order.{IsLetterwiseGreater}
use Rattle.words.specs.Words.{degree_of}
use Rattle.words.proofs.Members.{AllPairs-first, AllPairs-rest}
use Rattle.words.proofs.Weights.{length-le-degree_of}
use Rattle.free_poly.specs.declared.term.Term.{Term}
use Rattle.free_poly.specs.Poly.{IsMonic, lead_of, lead_or_none}
use Rattle.ideal_laws.specs.Basis.{HasGreaterLead}
use Rattle.ideal_laws.specs.Engine.{Elements}
use Rattle.ideal_laws.specs.Kept.{IsKept, IsKeptElement, count_below, count_upto, lead_degree}
use Rattle.ideal_laws.proofs.Counts.{below-none, below-suc, count_by-all, count_by-append}
use Rattle.overlaps.specs.Walk.{IsFalling, lead_word}
use Rattle.free_poly.proofs.Leads.{lead-is}

module _ {X : Type 0} (key : X → ℕ) where
  abbrev Rises : List X → Type 0
  Rises xs = AllPairs (λ x y. key x ≤ key y) xs

  abbrev below : ℕ → List X → ℕ
  below d xs = count_by (λ x. ltb (key x) d) xs

  below-more : (d : ℕ) (x : X) (xs : List X) → key x < d → below d (x ∷ xs) ≡ suc (below d xs)
  below-more d x xs lt =
      let one : below d (x ∷ []) ≡ 1 = count_by-all (λ y. ltb (key y) d) (x ∷ [])
      (All-cons (λ y. ltb (key y) d ≡ true) x [] (lt-ltb (key x) d lt) (All-nil (λ y. ltb (key y) d ≡ true))) in
      omega (arith, count_by-append (λ y. ltb (key y) d) (x ∷ []) xs, one)

  below-rest : (d : ℕ) (x : X) (xs : List X) → Rises (x ∷ xs) → d ≤ key x → below d (x ∷ xs) ≡ 0
  below-rest d x xs up le =
      below-none key d (x ∷ xs) (All-cons (λ y. d ≤ key y) x xs le (λ k e within. omega (arith, le, AllPairs-first (λ y z. key y ≤ key z) x xs up k e within)))

  -- in a list that rises, the first ones are those below
  key_before : (d : ℕ) (xs : List X) (i : ℕ) (e : X) → Rises xs → i < below d xs → key (get_or xs i e) < d
  key_before d [] i e up lt = absurd (omega (arith, lt))
  key_before d (x ∷ xs) zero e up lt = elim (cases_lt (key x) d) [
    | inr le ↦ absurd (omega (arith, lt, below-rest d x xs up le))
    | inl under ↦ under
  ]
  key_before d (x ∷ xs) (suc i) e up lt = elim (cases_lt (key x) d) [
    | inr le ↦ absurd (omega (arith, lt, below-rest d x xs up le))
    | inl under ↦ key_before d xs i e (AllPairs-rest (λ y z. key y ≤ key z) x xs up) (omega (arith, lt, below-more d x xs under))
  ]

  key_from : (d : ℕ) (xs : List X) (i : ℕ) (e : X) → Rises xs → i < length xs → below d xs ≤ i → d ≤ key (get_or xs i e)
  key_from d [] i e up lt le = absurd (omega (arith, lt))
  key_from d (x ∷ xs) zero e up lt le = elim (cases_lt (key x) d) [
    | inr from ↦ from
    | inl under ↦ absurd (omega (arith, le, below-more d x xs under))
  ]
  key_from d (x ∷ xs) (suc i) e up lt le = elim (cases_lt (key x) d) [
    | inr from ↦ omega (arith, from, AllPairs-first (λ y z. key y ≤ key z) x xs up i e (omega (arith, lt)))
    | inl under ↦ key_from d xs i e (AllPairs-rest (λ y z. key y ≤ key z) x xs up) (omega (arith, lt)) (omega (arith, le, below-more d x xs under))
  ]

-- the leading degree of a polynomial is the degree of its leading word
pub lead_degree-is : (weights : List ℕ) (f : List Term) → lead_degree weights f ≡ degree_of weights (lead_or_none f)
lead_degree-is weights [] = refl
lead_degree-is weights (t ∷ f) = refl

-- a monic polynomial has a leading word
pub monic-lead : (f : List Term) → IsMonic f → lead_of f ≡ Some (lead_or_none f)
monic-lead [] m = absurd m
monic-lead (t ∷ f) m = refl

module _ (b : Elements) (kept : IsKept b) where
  abbrev G : List (List Term)
  G = b.elements

  -- at each place of the list stands a kept element
  pub element_kept : (i : ℕ) → i < length G → IsKeptElement b.weights b.done (get_or G i [])
  element_kept i lt = kept.each i [] lt

  -- its degree is from 1 to 64
  pub lead_word-bounds : (i : ℕ) → i < length G → (0 < degree_of b.weights (lead_word G i)) × (degree_of b.weights (lead_word G i) ≤ 64)
  lead_word-bounds i lt =
      let h = element_kept i lt in
      let e = lead_degree-is b.weights (get_or G i []) in
      (omega (arith, e, h.from), omega (arith, e, h.upto, kept.degrees))

  -- so its leading word has at most 64 letters
  pub lead_word-small : (i : ℕ) → i < length G → length (lead_word G i) ≤ 64
  lead_word-small i lt = omega (arith, length-le-degree_of b.weights kept.weights (lead_word G i), (lead_word-bounds i lt).1)

  rises : AllPairs (λ f g. lead_degree b.weights f ≤ lead_degree b.weights g) G
  rises i j d before within = elim (kept.ordered i j d before within) [
    | inl lt ↦ omega (arith, lt)
    | inr e ↦ omega (arith, e.0)
  ]

  -- the elements of a degree stand from one count to the other
  pub in_degree : (d i : ℕ) → count_below b.weights d G ≤ i → i < count_upto b.weights d G → i < length G → degree_of b.weights (lead_word G i) ≡ d
  in_degree d i from under within =
      let low = key_from (lead_degree b.weights) d G i [] rises within from in
      let high = key_before (lead_degree b.weights) (suc d) G i [] rises (omega (arith, under, below-suc (lead_degree b.weights) d G)) in
      omega (arith, low, high, lead_degree-is b.weights (get_or G i []))

  -- an element before the places of degree d has a lower degree
  pub before_degree : (d i : ℕ) → i < length G → i < count_below b.weights d G → degree_of b.weights (lead_word G i) < d
  before_degree d i within under = omega (arith, key_before (lead_degree b.weights) d G i [] rises under, lead_degree-is b.weights (get_or G i []))

  -- one behind them has a greater degree
  pub behind_degree : (d i : ℕ) → i < length G → count_upto b.weights d G ≤ i → d < degree_of b.weights (lead_word G i)
  behind_degree d i within from =
      omega (
        arith,
        key_from (lead_degree b.weights) (suc d) G i [] rises within
            (omega (arith, from, below-suc (lead_degree b.weights) d G)),
        lead_degree-is b.weights (get_or G i []),
      )

  -- and fall there
  pub falls_in_degree : (d : ℕ) → count_upto b.weights d G ≤ length G → IsFalling G (count_below b.weights d G) (count_upto b.weights d G)
  falls_in_degree d fits i j from before under = elim (kept.ordered i j [] before (omega (arith, under, fits))) [
    | inl lt ↦
        absurd (omega (
          arith,
          lt,
          lead_degree-is b.weights (get_or G i []),
          lead_degree-is b.weights (get_or G j []),
          in_degree d i from (omega (arith, before, under)) (omega (arith, before, under, fits)),
          in_degree d j (omega (arith, from, before)) under (omega (arith, under, fits)),
        ))
    | inr e ↦ falls (get_or G i []) (get_or G j []) e.1
  ]
    where
      falls : (f g : List Term) → HasGreaterLead f g → IsLetterwiseGreater (lead_or_none f) (lead_or_none g)
      falls f g h = subst (λ (w : List ℕ). IsLetterwiseGreater w (lead_or_none g)) (sym (lead-is f h.of_f h.leads_f))
          (subst (IsLetterwiseGreater h.of_f) (sym (lead-is g h.of_g h.leads_g)) h.greater)
