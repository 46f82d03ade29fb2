-- Residues of a number, and the moduli that make them a field.
use Rattle.std.specs.Prelude.{ℕ, ◌≡◌, ◌+◌, ◌-◌, ◌*◌, ◌%◌, ◌<◌, ◌≤◌, List, [], ◌∷◌}

-- each residue other than 0 has a residue that it gives 1 with
pub record IsFieldModulus (p : ℕ) : Type 0 where
  pub two_or_more : 2 ≤ p
  pub has_inverse : (a : ℕ) → 0 < a → a < p → (b : ℕ) × (b < p) × ((a * b) % p ≡ 1)

-- the moduli that a command line may name
abbrev pub listed_moduli : List ℕ
listed_moduli = 2 ∷ 3 ∷ 5 ∷ 7 ∷ 11 ∷ 13 ∷ 101 ∷ 32003 ∷ 65521 ∷ 1000003 ∷ []

abbrev pub sum_of : ℕ → ℕ → ℕ → ℕ
sum_of p a b = (a + b) % p

abbrev pub product_of : ℕ → ℕ → ℕ → ℕ
product_of p a b = (a * b) % p

abbrev pub negative_of : ℕ → ℕ → ℕ
negative_of p a = (p - a) % p

abbrev pub difference_of : ℕ → ℕ → ℕ → ℕ
difference_of p a b = (a + (p - b)) % p

-- y + a * x, place by place
abbrev pub plus_multiple : ℕ → ℕ → List ℕ → List ℕ → List ℕ
plus_multiple p a [] x = []
plus_multiple p a (r ∷ y) [] = r ∷ y
plus_multiple p a (r ∷ y) (s ∷ x) = (r + a * s) % p ∷ plus_multiple p a y x
