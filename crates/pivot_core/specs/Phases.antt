-- What is said of a view by its phase.
use Rattle.std.specs.Prelude.{ℕ, ◌≡◌, ◌<◌, ◌≤◌, List, length}
use Rattle.pivot_core.specs.declared.view.Phase.{Phase}
use Rattle.pivot_core.specs.declared.view.Phase.TheVariants as phase
use Rattle.pivot_core.specs.declared.sight.Sight.{Sight}
use Rattle.pivot_core.specs.Views.{zeros}

-- row r is the current row
abbrev pub HasRow : Phase → ℕ → Type 0
HasRow phase.Fresh r = ⊥
HasRow (phase.Looking row column) r = row ≡ r
HasRow (phase.Putting row column at) r = row ≡ r
HasRow (phase.Claiming row column) r = row ≡ r
HasRow (phase.Reading row column holder at) r = row ≡ r
HasRow phase.Ended r = ⊥

-- the column of a phase, and 0 where it has none
abbrev pub column_of : Phase → ℕ
column_of phase.Fresh = 0
column_of (phase.Looking row column) = column
column_of (phase.Putting row column at) = column
column_of (phase.Claiming row column) = column
column_of (phase.Reading row column holder at) = column
column_of phase.Ended = 0

-- from its column up to here the current row is published
abbrev pub published_upto : ℕ → Phase → ℕ
published_upto m phase.Fresh = 0
published_upto m (phase.Looking row column) = 0
published_upto m (phase.Putting row column at) = at
published_upto m (phase.Claiming row column) = m
published_upto m (phase.Reading row column holder at) = 0
published_upto m phase.Ended = 0

-- 1 for a view that has ended
abbrev pub is_ended : Phase → ℕ
is_ended phase.Ended = 1
is_ended f = 0

-- rows and holders are below n, columns below m, and `at` stands from the column to before m
abbrev pub IsPhase : ℕ → ℕ → Phase → Type 0
IsPhase m n phase.Fresh = Unit {0}
IsPhase m n (phase.Looking row column) = (row < n) × (column < m)
IsPhase m n (phase.Putting row column at) = (row < n) × (column ≤ at) × (at < m)
IsPhase m n (phase.Claiming row column) = (row < n) × (column < m)
IsPhase m n (phase.Reading row column holder at) = (row < n) × (holder < n) × (column ≤ at) × (at < m)
IsPhase m n phase.Ended = Unit {0}

-- without a current row `current` is zeros
abbrev pub IsIdle : ℕ → Phase → List ℕ → Type 0
IsIdle m phase.Fresh current = current ≡ zeros m
IsIdle m phase.Ended current = current ≡ zeros m
IsIdle m f current = Unit {0}

-- in every phase but Reading `seen` is zeros
abbrev pub IsUnread : ℕ → Phase → List ℕ → Type 0
IsUnread m (phase.Reading row column holder at) seen = Unit {0}
IsUnread m f seen = seen ≡ zeros m

-- the numbers and lists of a view are in range
pub record IsSight (m n : ℕ) (v : Sight) : Type 0 where
  pub numbers : IsPhase m n v.phase
  pub current : length v.current ≡ m
  pub seen : length v.seen ≡ m
  pub idle : IsIdle m v.phase v.current
  pub unread : IsUnread m v.phase v.seen
