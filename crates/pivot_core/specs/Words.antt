-- The words of the machine of claims.
use Rattle.std.specs.Prelude.{ℕ, ◌≡◌, ◌⊎◌, ◌+◌, ◌-◌, ◌*◌, ◌/◌, ◌%◌, ◌^◌, ◌<◌, ◌==◌, ltb}
use Rattle.std.specs.Prelude.{if◌then◌else◌, Option, Some, None}

-- what a word is for: the number of draws so far, the claim of a column, or what a row has published at a column
pub data Spot : Type 0 where
  counter : Spot
  claim_of : ℕ → Spot
  row_word : ℕ → ℕ → Spot

-- where it stands among the words, of a problem with m columns
abbrev pub index_of : ℕ → Spot → ℕ
index_of m counter = 0
index_of m (claim_of c) = 1 + c
index_of m (row_word r j) = 1 + m + r * m + j

-- a spot of a problem with m columns and n rows
abbrev pub IsSpot : ℕ → ℕ → Spot → Type 0
IsSpot m n counter = Unit {0}
IsSpot m n (claim_of c) = c < m
IsSpot m n (row_word r j) = (r < n) × (j < m)

-- the claim word of a claim
abbrev pub claim_word : ℕ → ℕ → ℕ
claim_word stamp row = stamp * 2 ^ 32 + row + 1

-- the stamp in a claim word, which is 0 where the column is free
abbrev pub stamp_in : ℕ → ℕ
stamp_in word = word / 2 ^ 32

-- the row in a claim word other than 0
abbrev pub row_in : ℕ → ℕ
row_in word = word % 2 ^ 32 - 1

-- the row that holds the column of a claim word, where one does
abbrev pub holder_in : ℕ → Option ℕ
holder_in word = if word == 0 then None else Some (row_in word)

-- what the held row of column c has at column j, by the claim word of c and what rows have published: 0 before its own
-- column, and from there on what the holder has published
abbrev pub value_in : ℕ → (ℕ → ℕ → ℕ) → ℕ → ℕ → ℕ
value_in word published c j = if word == 0 then 0 else if ltb j c then 0 else published (row_in word) j

-- a claim by a row below n, with a stamp from 1 to 2^32 - 1
pub record IsClaim (n word : ℕ) : Type 0 where
  pub stamp : ℕ
  pub row : ℕ
  pub form : word ≡ claim_word stamp row
  pub some : 0 < stamp
  pub small : stamp < 2 ^ 32
  pub below : row < n

-- free, or a claim
abbrev pub IsClaimWord : ℕ → ℕ → Type 0
IsClaimWord n word = (word ≡ 0) ⊎ IsClaim n word
