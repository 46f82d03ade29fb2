-- The table of inverses that a field keeps where its modulus is at most 65535.
use Rattle.std.specs.Prelude.{ℕ, ◌≡◌, ◌*◌, ◌%◌, ◌<◌, ◌^◌, List, length, slice_index}
use Rattle.field_table.specs.Residues.{IsFieldModulus}

-- the first places of a table
pub record IsTableUpto (p : ℕ) (inverses : List ℕ) (n : ℕ) : Type 0 where
  pub count : length inverses ≡ n
  pub residues : (a : ℕ) → a < n → slice_index inverses a < p
  pub right : (a : ℕ) → 0 < a → a < n → (a * slice_index inverses a) % p ≡ 1

-- a field modulus below 2^31, with a whole table where it is below 2^16
pub record IsFieldTable (p : ℕ) (inverses : List ℕ) : Type 0 where
  pub modulus : IsFieldModulus p
  pub small : p < 2 ^ 31
  pub whole : p < 2 ^ 16 → IsTableUpto p inverses p
