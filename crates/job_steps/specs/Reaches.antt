-- Each task that is posed has exactly one reach, and exactly one text.
use Rattle.std.specs.Prelude.{ℕ, ◌<◌, ◌≤◌, List, Contains, length}
use Rattle.ideal_laws.specs.declared.limits.LimitKind.{LimitKind}
use Rattle.ideal_laws.specs.declared.limits.LimitKind.TheVariants.{PlainWords, Terms}
use Rattle.ideal_laws.specs.Laws.{IsOne, IsSetting}
use Rattle.job_steps.specs.declared.status.Status.{Status}
use Rattle.job_steps.specs.Progress.{IsReach, IsTaskText, Task, ideal_of_task}
use Rattle.job_steps.specs.Statuses.{IsTaskOutcome}

-- a limit that each degree passes whose reduced basis has more elements than a basis keeps
abbrev pub BoundsElements : LimitKind → ℕ → Type 0
BoundsElements PlainWords number = number ≤ 16777216
BoundsElements Terms number = number ≤ 16777216
BoundsElements kind number = ⊥

-- a field, from 1 to 64 letters, relations, at most 64 degrees, and a limit on the elements of a degree
pub record IsPosed (t : Task) : Type 0 where
  pub setting : IsSetting (ideal_of_task t)
  pub some : 0 < length t.letters.weights
  pub letters : length t.letters.weights ≤ 64
  pub degrees : t.bound ≤ 64
  pub limit : LimitKind × ℕ
  pub among : Contains t.limits limit
  pub bounds : BoundsElements limit.0 limit.1

-- each comes exactly so far
abbrev pub HasOneReach : Type 0
HasOneReach = (t : Task) → IsPosed t → IsOne (IsReach t)

-- and has exactly one text
abbrev pub HasOneText : Type 0
HasOneText = (t : Task) → IsPosed t → IsOne (IsTaskText t)

-- and exactly one status with its text
abbrev pub HasOneOutcome : Type 0
HasOneOutcome = (t : Task) → IsPosed t → IsOne (λ (o : Status × List ℕ). IsTaskOutcome t o.0 o.1)
