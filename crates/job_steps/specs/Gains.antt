-- What a sink gains of a text that is written to it.
use Rattle.std.specs.Prelude.{ℕ, ◌≡◌, List, Result, MatchResult, length}
use Rattle.std.specs.Io.KnownBytes.{Appends}
use Rattle.bg_io.specs.Ends.{CountsGained, HasRoom, IsCutShort, RoomFalls, Rose}
use Rattle.job_steps.specs.declared.print.PrintFault.{PrintFault}
use Rattle.job_steps.specs.declared.print.PrintFault.TheVariants.{Limit, WriteFault, NoMemory}
use Rattle.job_steps.specs.Progress.{HasLinesBelow, IsBeginning, IsDue, IsReach, IsStoppedBy, IsTaskText, IsText}
use Rattle.job_steps.specs.Progress.{Reach, Task, last_degree}
use Rattle.job_steps.specs.States.{SinkState}

-- In the following, before and after are what the sink tells before the writes and after them.

-- all of the text, and no write failed
pub record GainsAll (before after : SinkState) (text : List ℕ) : Type 0 where
  pub appended : Appends before.held after.held text
  pub falls : RoomFalls before.room after.room (length text)
  pub kept : after.faults ≡ before.faults

-- a proper prefix of the text, and no room was told for the whole
pub record GainsPart (before after : SinkState) (text : List ℕ) : Type 0 where
  pub gained : List ℕ
  pub appended : Appends before.held after.held gained
  pub cut_short : IsCutShort gained text
  pub no_room : HasRoom before.room (length text) → ⊥

-- some prefix of the text
pub record GainsSome (before after : SinkState) (text : List ℕ) : Type 0 where
  pub gained : List ℕ
  pub appended : Appends before.held after.held gained
  pub beginning : IsBeginning gained text

-- at most as many writes were made as bytes were gained, and one more where it ended with a fault
abbrev pub CountsWrites : {T E : Type 0} → SinkState → SinkState → Result T E → Type 0
CountsWrites before after result =
    MatchResult result (λ _. CountsGained before.held after.held before.calls after.calls 0)
    (λ _. CountsGained before.held after.held before.calls after.calls 1)

-- why a text was not written, and what was gained of it
abbrev pub IsUnwritten : SinkState → SinkState → List ℕ → PrintFault → Type 0
IsUnwritten before after text (Limit kind d value) = ⊥
IsUnwritten before after text WriteFault = Rose before.faults after.faults × GainsPart before after text
IsUnwritten before after text NoMemory = GainsSome before after text

-- the text of a task that comes so far was gained whole
pub record HasPrinted (t : Task) (reach : Reach) (before after : SinkState) : Type 0 where
  pub is_reach : IsReach t reach
  pub text : List ℕ
  pub is_text : IsText t reach text
  pub appended : Appends before.held after.held text

-- once the degrees up to the last one were computed, a proper prefix was gained of the text that was due then, which
-- begins the text of the task; no room was told for the whole; and the lines of the degrees below the last were gained
pub record HasPrintedPart (t : Task) (before after : SinkState) : Type 0 where
  pub last : ℕ
  pub due : List ℕ
  pub is_due : IsDue t last due
  pub begins : (text : List ℕ) → IsTaskText t text → IsBeginning due text
  pub part : GainsPart before after due
  pub lines_below : HasLinesBelow t last part.gained

-- the same of some prefix
pub record HasPrintedSome (t : Task) (before after : SinkState) : Type 0 where
  pub last : ℕ
  pub due : List ℕ
  pub is_due : IsDue t last due
  pub begins : (text : List ℕ) → IsTaskText t text → IsBeginning due text
  pub part : GainsSome before after due
  pub lines_below : HasLinesBelow t last part.gained

-- why a task was not done, what was gained of its text, and what holds of the last degree that was computed
abbrev pub IsUndone : Task → SinkState → SinkState → (ℕ → Type 0) → PrintFault → Type 0
IsUndone t before after Holds (Limit kind d value) =
    (reach : Reach) × IsStoppedBy reach kind d value × HasPrinted t reach before after × Holds (last_degree t reach)
IsUndone t before after Holds WriteFault = Rose before.faults after.faults
    × ((part : HasPrintedPart t before after) × Holds part.last)
IsUndone t before after Holds NoMemory = (part : HasPrintedSome t before after) × Holds part.last
