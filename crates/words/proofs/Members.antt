-- Members and pairs of lists that are made by `map`, `flat_map` and `++`.
use Rattle.std.proofs.Common.{◌≡◌, ◌⊎◌, ◌<◌, ℕ, zero, suc, Bool, true, false, cond, List, [], ◌∷◌, ◌++◌, map, length, refl, sym, ap, ◌∙◌, inl, inr, arith, All, AllPairs, subst, get_or}
use Rattle.std.specs.List.{Contains, filter, flat_map}
use Rattle.std.proofs.lemmas.List.Elements.{All-append, All-cons, All-contains, All-contains_itself, All-filter, All-nil, filter_passes}
use Rattle.std.proofs.lemmas.List.Elements.{Contains-append_cases, Contains-append_left, Contains-append_right}
use Rattle.std.proofs.lemmas.List.Kept.{AllPairs-cons}

module _ {X : Type 0} where
  -- a list contains its first member
  pub Contains-first : (x : X) (xs : List X) → Contains (x ∷ xs) x
  Contains-first x xs = (0, omega arith, refl)

  -- what a list contains it contains with one more member in front, too
  pub Contains-more : (y : X) (xs : List X) (x : X) → Contains xs x → Contains (y ∷ xs) x
  Contains-more y xs x h = (suc h.0, omega (arith, h.1), h.2)

  at_front : (y : X) (xs : List X) (x : X) (k : ℕ) → k < length (y ∷ xs) → get_or (y ∷ xs) k x ≡ x → (y ≡ x) ⊎ Contains xs x
  at_front y xs x zero lt e = inl e
  at_front y xs x (suc k) lt e = inr (k, omega (arith, lt), e)

  -- a member of a list is its first or one of the rest
  pub Contains-cases : (y : X) (xs : List X) (x : X) → Contains (y ∷ xs) x → (y ≡ x) ⊎ Contains xs x
  Contains-cases y xs x h = at_front y xs x h.0 h.1 h.2

  -- the empty list contains nothing
  pub Contains-none : (x : X) → Contains [] x → ⊥
  Contains-none x h = omega (arith, h.1)

  -- where P holds of each member of a list, all of the list have P
  pub All-from_members : (P : X → Type 0) (xs : List X) → ((x : X) → Contains xs x → P x) → All P xs
  All-from_members P [] h = All-nil P
  All-from_members P (x ∷ xs) h = All-cons P x xs (h x (Contains-first x xs)) (All-from_members P xs (λ y m. h y (Contains-more x xs y m)))

  -- each relation holds of all pairs of the empty list
  pub AllPairs-nil : (R : X → X → Type 0) → AllPairs R []
  AllPairs-nil R i j d below within = absurd (omega (arith, within))

  -- a relation that holds of all pairs of a list holds of its first member with each of the rest
  pub AllPairs-first : (R : X → X → Type 0) (x : X) (xs : List X) → AllPairs R (x ∷ xs) → All (R x) xs
  AllPairs-first R x xs h k d within = h zero (suc k) d (omega arith) (omega (arith, within))

  -- a relation that holds of all pairs of a list holds of all pairs of the rest behind its first member
  pub AllPairs-rest : (R : X → X → Type 0) (x : X) (xs : List X) → AllPairs R (x ∷ xs) → AllPairs R xs
  AllPairs-rest R x xs h i j d below within = h (suc i) (suc j) d (omega (arith, below)) (omega (arith, within))

  -- a relation that holds of all pairs of two lists, and of each of the one with each of the other, holds of all pairs of them joined
  pub AllPairs-append : (R : X → X → Type 0) (xs ys : List X) → AllPairs R xs → AllPairs R ys → ((x : X) → Contains xs x → All (R x) ys) → AllPairs R (xs ++ ys)
  AllPairs-append R [] ys p q h = q
  AllPairs-append R (x ∷ xs) ys p q h =
      AllPairs-cons R x (xs ++ ys) (All-append (R x) xs ys (AllPairs-first R x xs p) (h x (Contains-first x xs)))
      (AllPairs-append R xs ys (AllPairs-rest R x xs p) q (λ y m. h y (Contains-more x xs y m)))

module _ {X Y : Type 0} (f : X → Y) where
  -- the image of a member is in the image of the list
  pub Contains-map : (xs : List X) (x : X) → Contains xs x → Contains (map f xs) (f x)
  Contains-map [] x h = absurd (Contains-none x h)
  Contains-map (y ∷ xs) x h = elim (Contains-cases y xs x h) [
    | inl e ↦ subst (λ (z : Y). Contains (f y ∷ map f xs) z) (ap f e) (Contains-first (f y) (map f xs))
    | inr m ↦ Contains-more (f y) (map f xs) (f x) (Contains-map xs x m)
  ]

  -- what the image of a list contains is the image of a member
  pub Contains-map_cases : (xs : List X) (y : Y) → Contains (map f xs) y → (x : X) × Contains xs x × (f x ≡ y)
  Contains-map_cases [] y h = absurd (Contains-none y h)
  Contains-map_cases (x ∷ xs) y h = elim (Contains-cases (f x) (map f xs) y h) [
    | inl e ↦ (x, Contains-first x xs, e)
    | inr m ↦ let r = Contains-map_cases xs y m in (r.0, Contains-more x xs r.0 r.1, r.2)
  ]

  -- where R holds of all pairs of a list, and S of the images of any two with R, S holds of all pairs of the image
  pub AllPairs-map : (R : X → X → Type 0) (S : Y → Y → Type 0) → ((a b : X) → R a b → S (f a) (f b)) → (xs : List X) → AllPairs R xs → AllPairs S (map f xs)
  AllPairs-map R S h [] p = AllPairs-nil S
  AllPairs-map R S h (x ∷ xs) p =
      AllPairs-cons S (f x) (map f xs)
      (All-from_members (S (f x)) (map f xs) (λ y m. let r = Contains-map_cases xs y m in
      subst (S (f x)) r.2 (h x r.0 (All-contains (R x) xs r.0 (AllPairs-first R x xs p) r.1))))
      (AllPairs-map R S h xs (AllPairs-rest R x xs p))

module _ {X Y : Type 0} (f : X → List Y) where
  -- what the list of a member contains the lists of all members joined contain
  pub Contains-flat_map : (xs : List X) (x : X) (y : Y) → Contains xs x → Contains (f x) y → Contains (flat_map f xs) y
  Contains-flat_map [] x y h m = absurd (Contains-none x h)
  Contains-flat_map (z ∷ xs) x y h m = elim (Contains-cases z xs x h) [
    | inl e ↦ Contains-append_left (f z) (flat_map f xs) y (subst (λ (w : X). Contains (f w) y) (sym e) m)
    | inr r ↦ Contains-append_right (f z) (flat_map f xs) y (Contains-flat_map xs x y r m)
  ]

  -- what the lists of all members joined contain the list of some member contains
  pub Contains-flat_map_cases : (xs : List X) (y : Y) → Contains (flat_map f xs) y → (x : X) × Contains xs x × Contains (f x) y
  Contains-flat_map_cases [] y h = absurd (Contains-none y h)
  Contains-flat_map_cases (z ∷ xs) y h = elim (Contains-append_cases (f z) (flat_map f xs) y h) [
    | inl m ↦ (z, Contains-first z xs, m)
    | inr m ↦ let r = Contains-flat_map_cases xs y m in (r.0, Contains-more z xs r.0 r.1, r.2)
  ]

  -- where S holds in the list of each member, and across those of any two with R, it holds of all pairs of the lists of members in R joined
  pub AllPairs-flat_map : (R : X → X → Type 0) (S : Y → Y → Type 0) → ((x : X) → AllPairs S (f x)) →
      ((a b : X) (u v : Y) → R a b → Contains (f a) u → Contains (f b) v → S u v)
      → (xs : List X) → AllPairs R xs → AllPairs S (flat_map f xs)
  AllPairs-flat_map R S inside across [] p = AllPairs-nil S
  AllPairs-flat_map R S inside across (x ∷ xs) p =
      AllPairs-append S (f x) (flat_map f xs) (inside x) (AllPairs-flat_map R S inside across xs (AllPairs-rest R x xs p))
      (λ u m. All-from_members (S u) (flat_map f xs) (λ v n. let r = Contains-flat_map_cases xs v n in
      across x r.0 u v (All-contains (R x) xs r.0 (AllPairs-first R x xs p) r.1) m r.2))

module _ {X : Type 0} (f : X → Bool) where
  -- a member at which f is true is among those
  pub Contains-filter : (xs : List X) (x : X) → Contains xs x → f x ≡ true → Contains (filter f xs) x
  Contains-filter [] x m e = absurd (Contains-none x m)
  Contains-filter (y ∷ xs) x m e = elim (Contains-cases y xs x m) [
    | inl is ↦ subst (λ (b : Bool). Contains (cond b (y ∷ filter f xs) (filter f xs)) x) (sym (ap f is ∙ e))
        (subst (Contains (y ∷ filter f xs)) is (Contains-first y (filter f xs)))
    | inr n ↦ by_test (f y) (Contains-filter xs x n e)
  ]
    where
      by_test : (b : Bool) → Contains (filter f xs) x → Contains (cond b (y ∷ filter f xs) (filter f xs)) x
      by_test true n = Contains-more y (filter f xs) x n
      by_test false n = n

  -- each of those is a member at which f is true
  pub Contains-filter_cases : (xs : List X) (x : X) → Contains (filter f xs) x → Contains xs x × (f x ≡ true)
  Contains-filter_cases xs x m = (
    All-contains (Contains xs) (filter f xs) x (All-filter f (Contains xs) xs (All-contains_itself xs)) m,
    All-contains (λ y. f y ≡ true) (filter f xs) x (filter_passes f xs) m,
  )
