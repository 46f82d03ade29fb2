-- Parts of lists, and cases of an option.
use Rattle.std.proofs.Common.{◌≡◌, ◌⊎◌, ◌+◌, ◌<◌, ℕ, zero, suc, List, [], ◌∷◌, ◌++◌, map, take, length, get_or, refl, sym, ap, ◌∙◌, inl, inr, arith}
use Rattle.std.proofs.Common.{Option, Some, None}
use Rattle.std.proofs.lemmas.List.{map-append, take_more}
use Rattle.std.specs.Prelude.{Contains, IsSome, MatchOption, is_some, false}

-- some value has the property, or none has
abbrev pub Decided : {X : Type 0} → (X → Type 0) → Type 0
Decided {X} P = ((x : X) × P x) ⊎ ((x : X) → P x → ⊥)

module _ {X : Type 0} where
  -- the empty list is split at no element
  pub no_split : (before : List X) (x : X) (after : List X) → [] ≡ before ++ x ∷ after → ⊥
  no_split [] x after e = cc e
  no_split (b ∷ before) x after e = cc e

  -- a split of a list with one more element is at that element, or is a split of the list
  pub split_last : (xs : List X) (x : X) (before : List X) (y : X) (after : List X) → xs ++ x ∷ [] ≡ before ++ y ∷ after →
      ((xs ≡ before) × (x ≡ y)) ⊎ ((rest : List X) × (xs ≡ before ++ y ∷ rest))
  split_last [] x [] y after e = inl (refl, cc e)
  split_last [] x (b ∷ before) y after e = let t : [] ≡ before ++ y ∷ after = cc e in absurd (no_split before y after t)
  split_last (z ∷ xs) x [] y after e = let h : z ≡ y = cc e in inr (xs, ap (λ (w : X). w ∷ xs) h)
  split_last (z ∷ xs) x (b ∷ before) y after e =
      let h : z ≡ b = cc e in
      let t : xs ++ x ∷ [] ≡ before ++ y ∷ after = cc e in
      elim (split_last xs x before y after t) [
        | inl p ↦ (let whole : z ∷ xs ≡ b ∷ before = λ i. h i ∷ p.0 i in inl (whole, p.1))
        | inr p ↦ (let whole : z ∷ xs ≡ b ∷ (before ++ y ∷ p.0) = λ i. h i ∷ p.1 i in inr (p.0, whole))
      ]

  -- what a list has before a place and at it
  pub split_at : (xs : List X) (i : ℕ) (d : X) → i < length xs → (after : List X) × (xs ≡ take i xs ++ get_or xs i d ∷ after)
  split_at [] i d lt = absurd (omega (arith, lt))
  split_at (y ∷ xs) zero d lt = (xs, refl)
  split_at (y ∷ xs) (suc i) d lt = let r = split_at xs i d (omega (arith, lt)) in (r.0, ap (λ (ys : List X). y ∷ ys) r.1)

  -- a list of one element has no other member
  pub only_member : (x y : X) → Contains (x ∷ []) y → y ≡ x
  only_member x y m = let e : m.0 ≡ 0 = omega (arith, m.1) in sym m.2 ∙ ap (λ (k : ℕ). get_or (x ∷ []) k y) e

  -- an option without a value is none
  pub none_from : (o : Option X) → is_some o ≡ false → o ≡ None
  none_from None e = refl
  none_from (Some x) e = absurd (cc e)

  -- where an option has no value, what is said of none holds
  pub when_none : (P : Type 0) (Q : X → Type 0) (o : Option X) → MatchOption o P Q → is_some o ≡ false → P
  when_none P Q None h e = h
  when_none P Q (Some x) h e = absurd (cc e)

  -- where it has one, what is said of a value holds of that one
  pub when_some : (P : Type 0) (Q : X → Type 0) (o : Option X) → MatchOption o P Q → IsSome o → (x : X) × Q x
  when_some P Q None h e = absurd (cc e)
  when_some P Q (Some x) h e = (x, h)

module _ {X Y : Type 0} (f : X → Y) where
  -- the images of a list are those before a place, the one at it, and some behind
  pub map-split : (xs : List X) (i : ℕ) (d : X) → i < length xs → (after : List Y) × (map f xs ≡ map f (take i xs) ++ f (get_or xs i d) ∷ after)
  map-split xs i d lt = let r = split_at xs i d lt in (map f r.0, ap (map f) r.1 ∙ map-append f (take i xs) (get_or xs i d ∷ r.0))

  -- the images of one element more are those so far and the next one
  pub map-take-more : (xs : List X) (i : ℕ) (d : X) → i < length xs → map f (take (i + 1) xs) ≡ map f (take i xs) ++ f (get_or xs i d) ∷ []
  map-take-more xs i d lt = ap (map f) (take_more xs i d lt) ∙ map-append f (take i xs) (get_or xs i d ∷ [])
