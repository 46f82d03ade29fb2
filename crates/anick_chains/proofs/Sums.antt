-- Sums over lists that are made of others.
use Rattle.std.proofs.Common.{◌≡◌, ◌+◌, ◌*◌, ◌<◌, ◌≤◌, ℕ, inl, inr, List, [], ◌∷◌, length, map, refl, sym, ap, ◌∙◌, arith}
use Rattle.std.specs.List.{Contains, flat_map, sum_by}
use Rattle.std.proofs.lemmas.List.Concat.{flat_map-cons}
use Rattle.std.proofs.lemmas.Bool.{cases_lt}
use Rattle.std.proofs.lemmas.List.Sums.{get_or-le-sum_by, sum_by-append, sum_by-cons}
use Rattle.std.proofs.Math.Nat.{mul-add}
use Rattle.words.proofs.Members.{Contains-first, Contains-more}

module _ {X Y : Type 0} (g : Y → ℕ) where
  -- over a list of images
  pub sum_by-map : (h : X → Y) (xs : List X) → sum_by g (map h xs) ≡ sum_by (λ x. g (h x)) xs
  sum_by-map h [] = refl
  sum_by-map h (x ∷ xs) =
      sum_by-cons g (h x) (map h xs) ∙ ap (λ (n : ℕ). g (h x) + n) (sum_by-map h xs) ∙ sym (sum_by-cons (λ y. g (h y)) x xs)

  -- over lists joined
  pub sum_by-flat_map : (h : X → List Y) (xs : List X) → sum_by g (flat_map h xs) ≡ sum_by (λ x. sum_by g (h x)) xs
  sum_by-flat_map h [] = refl
  sum_by-flat_map h (x ∷ xs) =
      ap (sum_by g) (flat_map-cons h x xs) ∙ sum_by-append g (h x) (flat_map h xs)
      ∙ ap (λ (n : ℕ). sum_by g (h x) + n) (sum_by-flat_map h xs) ∙ sym (sum_by-cons (λ y. sum_by g (h y)) x xs)

module _ {X : Type 0} where
  -- of what is the same for each member
  pub sum_by-same : (f g : X → ℕ) (xs : List X) → ((x : X) → Contains xs x → f x ≡ g x) → sum_by f xs ≡ sum_by g xs
  sum_by-same f g [] e = refl
  sum_by-same f g (x ∷ xs) e =
      let first : f x ≡ g x = e x (Contains-first x xs) in
      let rest : sum_by f xs ≡ sum_by g xs = sum_by-same f g xs (λ y m. e y (Contains-more x xs y m)) in
      omega (arith, first, rest, sum_by-cons f x xs, sum_by-cons g x xs)

  -- of multiples
  pub sum_by-times : (k : ℕ) (f : X → ℕ) (xs : List X) → sum_by (λ x. k * f x) xs ≡ k * sum_by f xs
  sum_by-times k f [] = omega arith
  sum_by-times k f (x ∷ xs) =
      sum_by-cons (λ y. k * f y) x xs ∙ ap (λ (n : ℕ). k * f x + n) (sum_by-times k f xs) ∙ sym (mul-add k (f x) (sum_by f xs))
      ∙ ap (λ (n : ℕ). k * n) (sym (sum_by-cons f x xs))

  -- of two numbers
  pub sum_by-plus : (f g : X → ℕ) (xs : List X) → sum_by (λ x. f x + g x) xs ≡ sum_by f xs + sum_by g xs
  sum_by-plus f g [] = refl
  sum_by-plus f g (x ∷ xs) = omega (arith, sum_by-plus f g xs, sum_by-cons f x xs, sum_by-cons g x xs, sum_by-cons (λ y. f y + g y) x xs)

  -- of nothing
  pub sum_by-none : (f : X → ℕ) (xs : List X) → ((x : X) → Contains xs x → f x ≡ 0) → sum_by f xs ≡ 0
  sum_by-none f [] e = refl
  sum_by-none f (x ∷ xs) e =
      let first : f x ≡ 0 = e x (Contains-first x xs) in
      omega (arith, first, sum_by-cons f x xs, sum_by-none f xs (λ y m. e y (Contains-more x xs y m)))

  -- of a 1 for each
  pub sum_by-length : (xs : List X) → sum_by (λ x. 1) xs ≡ length xs
  sum_by-length [] = refl
  sum_by-length (x ∷ xs) = omega (arith, sum_by-length xs, sum_by-cons (λ (y : X). 1) x xs)

  -- a member has its part of the sum
  pub sum_by-member : (f : X → ℕ) (xs : List X) (x : X) → Contains xs x → f x ≤ sum_by f xs
  sum_by-member f xs x m = omega (arith, get_or-le-sum_by f xs m.0 x m.1, ap f m.2)

  -- where a sum is not 0, a member has a part of it
  pub sum_by-has : (f : X → ℕ) (xs : List X) → 0 < sum_by f xs → (x : X) × Contains xs x × (0 < f x)
  sum_by-has f [] some = absurd (omega (arith, some))
  sum_by-has f (x ∷ xs) some = elim (cases_lt 0 (f x)) [
    | inl here ↦ (x, Contains-first x xs, here)
    | inr none ↦ let r = sum_by-has f xs (omega (arith, some, none, sum_by-cons f x xs)) in (r.0, Contains-more x xs r.0 r.1, r.2)
  ]
