-- Lists to whose first places a multiple of another list is added.
use Rattle.std.specs.Prelude.{ℕ, ◌≡◌, ◌+◌, ◌*◌, ◌%◌, ◌<◌, ◌≤◌, List, length, slice_index}

-- y + a * x at the places below n, and y at the others
pub record IsAddedUpto (p a : ℕ) (y x : List ℕ) (n : ℕ) (now : List ℕ) : Type 0 where
  pub size : length now ≡ length y
  pub added : (k : ℕ) → k < n → slice_index now k ≡ (slice_index y k + a * slice_index x k) % p
  pub others : (k : ℕ) → n ≤ k → slice_index now k ≡ slice_index y k
