-- Rows of residues that are told by those at listed columns.
use Rattle.std.specs.Prelude.{ℕ, ◌≡◌, ◌≢◌, ◌<◌, List, [], ◌∷◌, All, AllPairs, length, replicate, slice_index, slice_set}

-- the row with these residues put in at these columns, one after another
abbrev pub with_entries : List ℕ → List ℕ → List ℕ → List ℕ
with_entries row [] residues = row
with_entries row (c ∷ columns) [] = row
with_entries row (c ∷ columns) (r ∷ residues) = with_entries (slice_set row c r) columns residues

-- the row of m residues that are these at these columns, and 0 elsewhere
abbrev pub entries_row : ℕ → List ℕ → List ℕ → List ℕ
entries_row m columns residues = with_entries (replicate m 0) columns residues

-- a residue for each of some rising columns below m
pub record AreEntries (m : ℕ) (columns residues : List ℕ) : Type 0 where
  pub same : length residues ≡ length columns
  pub rising : AllPairs (λ c d. c < d) columns
  pub below : All (λ c. c < m) columns

-- the first column where the row is not 0
pub record IsLead (row : List ℕ) (c : ℕ) : Type 0 where
  pub within : c < length row
  pub other : slice_index row c ≢ 0
  pub before : (k : ℕ) → k < c → slice_index row k ≡ 0
