-- The statuses that a task ends with by itself, and the text that goes with each.
use Rattle.std.specs.Prelude.{ℕ, ◌≡◌, ◌⊎◌, List, []}
use Rattle.std.specs.Io.KnownBytes.{Appends}
use Rattle.bg_io.specs.Ends.{Rose}
use Rattle.job_steps.specs.declared.status.InputProblem.TheVariants.{TooFewNames, Shape, TooFewRelations, AboveBound}
use Rattle.job_steps.specs.declared.status.Status.{Status}
use Rattle.job_steps.specs.declared.status.Status.TheVariants.{Done, Input, Limit, Chains, Products, WriteFault}
use Rattle.job_steps.specs.declared.status.Status.TheVariants.{NoMemory}
use Rattle.job_steps.specs.Gains.{GainsPart, GainsSome, HasPrinted, HasPrintedPart, HasPrintedSome}
use Rattle.job_steps.specs.Progress.{IsReach, IsStoppedBy, IsText, Reach, Task, whole}
use Rattle.job_steps.specs.States.{SinkState}

-- In the following, before and after are what the sink tells before the work and after it.

-- a status that the work on a text ends with by itself
abbrev pub IsOwn : Status → Type 0
IsOwn Done = Unit {0}
IsOwn (Limit kind d value) = Unit {0}
IsOwn (Chains d value) = Unit {0}
IsOwn (Products d value) = Unit {0}
IsOwn (Input (TooFewNames names)) = Unit {0}
IsOwn (Input (Shape relation)) = Unit {0}
IsOwn (Input (TooFewRelations relations)) = Unit {0}
IsOwn (Input (AboveBound relation)) = Unit {0}
IsOwn status = ⊥

-- a task comes to its end, or a limit stops it
abbrev pub IsTaskStatus : Task → Status → Type 0
IsTaskStatus t Done = IsReach t whole
IsTaskStatus t (Limit kind d value) = (reach : Reach) × IsReach t reach × IsStoppedBy reach kind d value
IsTaskStatus t status = ⊥

-- and so much of it is printed
abbrev pub IsTaskOutcome : Task → Status → List ℕ → Type 0
IsTaskOutcome t Done text = IsReach t whole × IsText t whole text
IsTaskOutcome t (Limit kind d value) text = (reach : Reach) × IsReach t reach × IsStoppedBy reach kind d value
    × IsText t reach text
IsTaskOutcome t status text = ⊥

-- how a task that is printed degree by degree ended, and what was gained of its text
abbrev pub IsTaskEnd : Task → SinkState → SinkState → Status → Type 0
IsTaskEnd t before after Done = HasPrinted t whole before after
IsTaskEnd t before after (Limit kind d value) = (reach : Reach) × IsStoppedBy reach kind d value
    × HasPrinted t reach before after
IsTaskEnd t before after WriteFault = Rose before.faults after.faults × HasPrintedPart t before after
IsTaskEnd t before after NoMemory = HasPrintedSome t before after
IsTaskEnd t before after status = ⊥

-- a status comes with such a text, which was gained
abbrev pub HasGained : SinkState → SinkState → (List ℕ → Type 0) → Type 0
HasGained before after Outcome = (text : List ℕ) × Outcome text × Appends before.held after.held text

-- an outcome has a text of which a proper prefix was gained, and no room was told for the whole
abbrev pub HasGainedPart : SinkState → SinkState → (Status → List ℕ → Type 0) → Type 0
HasGainedPart before after Outcome = (status : Status) × (text : List ℕ) × Outcome status text
    × GainsPart before after text

-- an outcome has a text of which some prefix was gained
abbrev pub HasGainedSome : SinkState → SinkState → (Status → List ℕ → Type 0) → Type 0
HasGainedSome before after Outcome = (status : Status) × (text : List ℕ) × Outcome status text
    × GainsSome before after text

-- how a task ended whose text is written at once, where it has these outcomes
abbrev pub IsAnswered : (Status → List ℕ → Type 0) → SinkState → SinkState → Status → Type 0
IsAnswered Outcome before after WriteFault = Rose before.faults after.faults × HasGainedPart before after Outcome
IsAnswered Outcome before after NoMemory = Appends before.held after.held []
IsAnswered Outcome before after status = HasGained before after (Outcome status)

-- how a task ended whose text is written part by part, where it has these outcomes
abbrev pub IsAnsweredInParts : (Status → List ℕ → Type 0) → SinkState → SinkState → Status → Type 0
IsAnsweredInParts Outcome before after NoMemory = Appends before.held after.held [] ⊎ HasGainedSome before after Outcome
IsAnsweredInParts Outcome before after status = IsAnswered Outcome before after status

-- this status with this text is the only outcome
abbrev pub IsThis : Status → List ℕ → Status → List ℕ → Type 0
IsThis own text status other = (status ≡ own) × (other ≡ text)
