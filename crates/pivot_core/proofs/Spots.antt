-- Where words stand.
use Rattle.std.proofs.Common.{◌≡◌, ◌≢◌, inl, inr, ℕ, ◌+◌, ◌*◌, ◌<◌, ◌≤◌, ap, ◌∙◌, arith, refl}
use Rattle.std.proofs.Math.Nat.{mul_comm, mul-add}
use Rattle.std.proofs.lemmas.Bool.{cases_eq, cases_lt}
use Rattle.std.proofs.lemmas.Nat.{mul-le}
use Rattle.pivot_core.specs.Words.{Spot, counter, claim_of, row_word, index_of, IsSpot}

-- the words of a row end before those of a later row
rows_apart : (m r q j k : ℕ) → r < q → j < m → r * m + j < q * m + k
rows_apart m r q j k lt small =
    let up : (r + 1) * m ≤ q * m = mul-le (r + 1) m q m (omega (arith, lt)) (omega arith) in
    let is : (r + 1) * m ≡ r * m + m = mul_comm (r + 1) m ∙ mul-add m r 1 ∙ omega (arith, mul_comm m r) in
    omega (arith, small, up, is)

-- two spots at one index are one
pub same_spot : (m n : ℕ) (a b : Spot) → IsSpot m n a → IsSpot m n b → index_of m a ≡ index_of m b → a ≡ b
same_spot m n counter counter ha hb e = refl
same_spot m n counter (claim_of c) ha hb e = absurd (omega (arith, e))
same_spot m n counter (row_word r j) ha hb e = absurd (omega (arith, e))
same_spot m n (claim_of c) counter ha hb e = absurd (omega (arith, e))
same_spot m n (claim_of c) (claim_of d) ha hb e = ap claim_of (omega (arith, e))
same_spot m n (claim_of c) (row_word r j) ha hb e = absurd (omega (arith, e, ha))
same_spot m n (row_word r j) counter ha hb e = absurd (omega (arith, e))
same_spot m n (row_word r j) (claim_of d) ha hb e = absurd (omega (arith, e, hb))
same_spot m n (row_word r j) (row_word q k) ha hb e = elim (cases_eq r q) [
  | inl same ↦ (let there : j ≡ k = omega (arith, e, ap (λ (x : ℕ). x * m) same) in λ i. row_word (same i) (there i))
  | inr other ↦ absurd (elim (cases_lt r q) [
    | inl lt ↦ omega (arith, e, rows_apart m r q j k lt ha.1)
    | inr le ↦ omega (arith, e, rows_apart m q r k j (omega (arith, le, other)) hb.1)
  ])
]

-- the spot is among the words
pub spot_within : (m n : ℕ) (a : Spot) → IsSpot m n a → index_of m a < 1 + m + n * m
spot_within m n counter h = omega arith
spot_within m n (claim_of c) h = omega (arith, h)
spot_within m n (row_word r j) h = omega (arith, rows_apart m r n j 0 h.0 h.1)

-- spots of two kinds, by a number for each kind
abbrev kind_of_spot : Spot → ℕ
kind_of_spot counter = 0
kind_of_spot (claim_of c) = 1
kind_of_spot (row_word r j) = 2

-- the claim of a column is not the counter
pub claim_not_counter : (c : ℕ) → claim_of c ≢ counter
claim_not_counter c e = let k : 1 ≡ 0 = ap kind_of_spot e in omega (arith, k)

-- a row word is not the counter
pub row_not_counter : (r j : ℕ) → row_word r j ≢ counter
row_not_counter r j e = let k : 2 ≡ 0 = ap kind_of_spot e in omega (arith, k)

-- a row word is not the claim of a column
pub row_not_claim : (r j c : ℕ) → row_word r j ≢ claim_of c
row_not_claim r j c e = let k : 2 ≡ 1 = ap kind_of_spot e in omega (arith, k)

-- the claim of a column is not a row word
pub claim_not_row : (c r j : ℕ) → claim_of c ≢ row_word r j
claim_not_row c r j e = let k : 1 ≡ 2 = ap kind_of_spot e in omega (arith, k)

-- the counter is not the claim of a column
pub counter_not_claim : (c : ℕ) → counter ≢ claim_of c
counter_not_claim c e = let k : 0 ≡ 1 = ap kind_of_spot e in omega (arith, k)

-- the counter is not a row word
pub counter_not_row : (r j : ℕ) → counter ≢ row_word r j
counter_not_row r j e = let k : 0 ≡ 2 = ap kind_of_spot e in omega (arith, k)

-- claims of two columns, and words of two rows
abbrev column_in : Spot → ℕ
column_in counter = 0
column_in (claim_of c) = c
column_in (row_word r j) = 0

-- two columns whose claims have one spot are one
pub same_column : (c d : ℕ) → claim_of c ≡ claim_of d → c ≡ d
same_column c d e = ap column_in e

-- the claims of two columns have two spots
pub claims_apart : (c d : ℕ) → c ≢ d → claim_of c ≢ claim_of d
claims_apart c d other e = other (ap column_in e)

abbrev row_in_spot : Spot → ℕ
row_in_spot counter = 0
row_in_spot (claim_of c) = 0
row_in_spot (row_word r j) = r

abbrev place_in_spot : Spot → ℕ
place_in_spot counter = 0
place_in_spot (claim_of c) = 0
place_in_spot (row_word r j) = j

-- the words of two rows have two spots
pub row_words_apart : (r q j k : ℕ) → r ≢ q → row_word r j ≢ row_word q k
row_words_apart r q j k other e = other (ap row_in_spot e)

-- row words at two columns have two spots
pub places_apart : (r q j k : ℕ) → j ≢ k → row_word r j ≢ row_word q k
places_apart r q j k other e = other (ap place_in_spot e)
