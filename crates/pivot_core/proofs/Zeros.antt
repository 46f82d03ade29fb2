-- Lists of zeros.
use Rattle.std.proofs.Common.{◌≡◌, ◌+◌, ◌*◌, ◌%◌, ℕ, zero, suc, List, [], ◌∷◌, inl, inr, length, map, get_or, refl, ap, ap₂, arith}
use Rattle.std.proofs.lemmas.Bool.{cases_lt}
use Rattle.std.proofs.lemmas.List.{get_or-replicate, get_or_past, length-replicate}
use Rattle.field_table.specs.Residues.{plus_multiple, product_of}
use Rattle.pivot_core.specs.Views.{zeros}

-- m zeros are a list of length m
pub length-zeros : (m : ℕ) → length (zeros m) ≡ m
length-zeros m = let none : ℕ = 0 in length-replicate m none

-- a list of zeros is 0 at each place
pub zeros-at : (m j : ℕ) → get_or (zeros m) j 0 ≡ 0
zeros-at m j = elim (cases_lt j m) [
  | inl lt ↦ get_or-replicate m j 0 0 lt
  | inr le ↦ get_or_past (zeros m) j 0 (omega (arith, le, length-zeros m))
]

-- a list of zeros, place by place
pub zeros_by : (m : ℕ) (xs : List ℕ) → length xs ≡ m → ((j : ℕ) → get_or xs j 0 ≡ 0) → xs ≡ zeros m
zeros_by zero [] size h = refl
zeros_by zero (x ∷ xs) size h = absurd (omega (arith, size))
zeros_by (suc m) [] size h = absurd (omega (arith, size))
zeros_by (suc m) (x ∷ xs) size h = ap₂ (λ (y : ℕ) (ys : List ℕ). y ∷ ys) (h 0) (zeros_by m xs (omega (arith, size)) (λ j. h (suc j)))

-- a multiple of a row added to zeros
pub plus_multiple-zeros : (p a : ℕ) (x : List ℕ) → plus_multiple p a (zeros (length x)) x ≡ map (λ r. product_of p a r) x
plus_multiple-zeros p a [] = refl
plus_multiple-zeros p a (s ∷ x) =
    let alone : 0 + a * s ≡ a * s = omega arith in
    ap₂ (λ (y : ℕ) (ys : List ℕ). y ∷ ys) (ap (λ (k : ℕ). k % p) alone) (plus_multiple-zeros p a x)
