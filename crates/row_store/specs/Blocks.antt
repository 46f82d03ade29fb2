-- Eight rows that are cleared at once. Their sums stand beside each other at each column, and a bit stands for all.
use Rattle.std.specs.Prelude.{ℕ, ◌≡◌, ◌≢◌, ◌+◌, ◌*◌, ◌/◌, ◌<◌, List, [], ◌∷◌, ◌++◌, Option, length, map, slice_index}
use Rattle.std.specs.Prelude.{slice_index_or}
use Rattle.std.specs.List.{range_with_len}
use Rattle.row_store.specs.declared.left.Left.{Left}
use Rattle.row_store.specs.Entries.{Reducer}
use Rattle.row_store.specs.Sums.{IsWalked}

-- the sums of one of the rows
abbrev pub lane : List ℕ → ℕ → List ℕ
lane sums i = map (λ k. slice_index sums (k * 8 + i)) (range_with_len 0 (length sums / 8))

-- a residue other than 0 is pushed with its place
pub record IsKept (place a : ℕ) (before after : Left) : Type 0 where
  pub none : a ≡ 0 → after ≡ before
  pub places : a ≢ 0 → after.places.items ≡ before.places.items ++ place ∷ []
  pub residues : a ≢ 0 → after.residues.items ≡ before.residues.items ++ a ∷ []

-- each row is walked up to a column
pub record AreWalked (p : ℕ) (reducers : List (Option Reducer)) (starts : ℕ → List ℕ) (at : ℕ) (sums bits : List ℕ)
    (left : List Left) : Type 0 where
  pub whole : length sums ≡ length sums / 8 * 8
  pub count : length left ≡ 8
  pub each : (i : ℕ) (d : Left) → i < 8 →
      IsWalked p reducers (starts i) at (lane sums i) bits (slice_index_or left i d)
