-- Splits of lists, and members of a row of keys.
use Rattle.std.proofs.Common.{◌≡◌, ◌≢◌, ◌⊎◌, List, [], ◌∷◌, ◌++◌, refl, sym, ap, inl, inr, arith, subst, ◌==◌}
use Rattle.std.specs.Prelude.{Contains}
use Rattle.std.proofs.lemmas.Bool.{cases_Bool, eqb-false, eqb-true}
use Rattle.std.proofs.lemmas.List.Elements.{Contains-append_right}
use Rattle.words.proofs.Members.{Contains-cases, Contains-more}
use Rattle.command_words.specs.declared.job.Key.{Key}
use Rattle.command_words.specs.Draft.{place_of}
use Rattle.command_words.proofs.OneKey.{one_place}
use Rattle.command_words.proofs.Parts.{Decided}

module _ {X : Type 0} where
  -- two splits of one list are one, or one is before the other
  pub compare_splits : (b : List X) (w : X) (a : List X) (c : List X) (v : X) (d : List X) → b ++ w ∷ a ≡ c ++ v ∷ d
      → ((b ≡ c) × (w ≡ v)) ⊎ (((r : List X) × (c ≡ b ++ w ∷ r)) ⊎ ((r : List X) × (b ≡ c ++ v ∷ r)))
  compare_splits [] w a [] v d e = inl (refl, cc e)
  compare_splits [] w a (y ∷ c) v d e = let h : y ≡ w = cc e in inr (inl (c, ap (λ (z : X). z ∷ c) h))
  compare_splits (x ∷ b) w a [] v d e = let h : x ≡ v = cc e in inr (inr (b, ap (λ (z : X). z ∷ b) h))
  compare_splits (x ∷ b) w a (y ∷ c) v d e =
      let h : x ≡ y = cc e in
      let t : b ++ w ∷ a ≡ c ++ v ∷ d = cc e in
      elim (compare_splits b w a c v d t) [
        | inl p ↦ (let whole : x ∷ b ≡ y ∷ c = λ i. h i ∷ p.0 i in inl (whole, p.1))
        | inr q ↦ elim q [
          | inl p ↦ (let whole : y ∷ c ≡ x ∷ (b ++ w ∷ p.0) = λ i. sym h i ∷ p.1 i in inr (inl (p.0, whole)))
          | inr p ↦ (let whole : x ∷ b ≡ y ∷ (c ++ v ∷ p.0) = λ i. h i ∷ p.1 i in inr (inr (p.0, whole)))
        ]
      ]

  -- what stands between two parts of a list is a member of it
  pub middle : (b : List X) (w : X) (a : List X) → Contains (b ++ w ∷ a) w
  middle b w a = Contains-append_right b (w ∷ a) w (0, omega arith, refl)

-- keys are one or two, and in a row or not
pub same_or_not : (a b : Key) → (a ≡ b) ⊎ (a ≢ b)
same_or_not a b = elim (cases_Bool (place_of a == place_of b)) [
  | inl t ↦ inl (one_place a b (eqb-true (place_of a) (place_of b) t))
  | inr f ↦ inr (λ e. eqb-false (place_of a) (place_of b) f (ap place_of e))
]

-- a key of the row is of a kind, or none is
pub among_or_not : (P : Key → Type 0) → ((key : Key) → P key ⊎ (P key → ⊥)) → (row : List Key) → Decided (λ (key : Key). Contains row key × P key)
among_or_not P decide [] = inr (λ key h. omega (arith, h.0.1))
among_or_not P decide (k ∷ row) = elim (decide k) [
  | inl is ↦ inl (k, ((0, omega arith, refl), is))
  | inr other ↦ elim (among_or_not P decide row) [
    | inl m ↦ inl (m.0, (Contains-more k row m.0 m.1.0, m.1.1))
    | inr none ↦ inr (λ key h. elim (Contains-cases k row key h.0) [ inl e ↦ other (subst P (sym e) h.1) | inr m ↦ none key (m, h.1) ])
  ]
]

-- a key is in a row or not
pub member_or_not : (row : List Key) (key : Key) → Contains row key ⊎ (Contains row key → ⊥)
member_or_not row key = elim (among_or_not (λ k. k ≡ key) (λ k. same_or_not k key) row) [
  | inl m ↦ inl (subst (Contains row) m.1.1 m.1.0)
  | inr none ↦ inr (λ m. none key (m, refl))
]
