-- Two lists side by side.
use Rattle.std.proofs.Common.{List, [], ◌∷◌, inl, inr, subst}
use Rattle.std.specs.List.{AllZip, Contains}
use Rattle.words.proofs.Members.{Contains-cases, Contains-first, Contains-more, Contains-none}

-- a member of the one list and what stands beside it in the other
pub record IsBeside {X Y : Type 0} (R : X → Y → Type 0) (xs : List X) (ys : List Y) (x : X) (y : Y) : Type 0 where
  pub left : Contains xs x
  pub right : Contains ys y
  pub related : R x y

-- each member of the first of two related lists has one of the second beside it, to which it is related
pub beside_left : {X Y : Type 0} (R : X → Y → Type 0) (xs : List X) (ys : List Y) (x : X) → AllZip R xs ys → Contains xs x → (y : Y) × IsBeside R xs ys x y
beside_left R [] ys x h there = absurd (Contains-none x there)
beside_left R (z ∷ xs) [] x h there = absurd h
beside_left R (z ∷ xs) (w ∷ ys) x h there = elim (Contains-cases z xs x there) [
  | inl is ↦ (w, record { left = there; right = Contains-first w ys; related = subst (λ u. R u w) is h.0 })
  | inr later ↦ let r = beside_left R xs ys x h.1 later in (r.0, record { left = there; right = Contains-more w ys r.0 r.1.right; related = r.1.related })
]

-- each member of the second of two related lists has one of the first beside it, which is related to it
pub beside_right : {X Y : Type 0} (R : X → Y → Type 0) (xs : List X) (ys : List Y) (y : Y) → AllZip R xs ys → Contains ys y → (x : X) × IsBeside R xs ys x y
beside_right R [] [] y h there = absurd (Contains-none y there)
beside_right R [] (w ∷ ys) y h there = absurd h
beside_right R (z ∷ xs) [] y h there = absurd h
beside_right R (z ∷ xs) (w ∷ ys) y h there = elim (Contains-cases w ys y there) [
  | inl is ↦ (z, record { left = Contains-first z xs; right = there; related = subst (R z) is h.0 })
  | inr later ↦ let r = beside_right R xs ys y h.1 later in (r.0, record { left = Contains-more z xs r.0 r.1.left; right = there; related = r.1.related })
]
