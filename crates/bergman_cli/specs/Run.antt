-- What a run has read and printed, and why it ended so.
use Rattle.std.specs.Prelude.{ℕ, ◌≡◌, ◌⊎◌, ◌<◌, ◌≤◌, List, [], Option, Some, length}
use Rattle.std.specs.Io.KnownBytes.{Appends}
use Rattle.words.specs.Names.{IsAlphabet, Letters}
use Rattle.free_poly.specs.declared.term.Term.{Term}
use Rattle.bg_io.specs.Ends.{Rose}
use Rattle.ideal_laws.specs.Ideal.{ideal_over}
use Rattle.ideal_laws.specs.Laws.{IsSetting}
use Rattle.relation_reader.specs.Meaning.{FirstFault, Reads}
use Rattle.generated_text.specs.Generated.{generated_text}
use Rattle.command_words.specs.declared.job.Command.{Command}
use Rattle.command_words.specs.declared.job.Command.TheVariants as commands
use Rattle.command_words.specs.declared.job.Job.{Job}
use Rattle.command_words.specs.JobOf.{IsJob, IsUsageFault}
use Rattle.job_steps.specs.declared.status.InputProblem.TheVariants.{TooLong, Text}
use Rattle.job_steps.specs.declared.status.Status.{Status}
use Rattle.job_steps.specs.declared.status.Status.TheVariants.{Done, Usage, Input, Limit}
use Rattle.job_steps.specs.declared.status.Status.TheVariants.{ReadFault, WriteFault, NoMemory}
use Rattle.job_steps.specs.Inputs.{IsInput, IsInputEnd}
use Rattle.job_steps.specs.States.{SinkState, SourceState}
use Rattle.bergman_cli.specs.Jobs.{OfJob}
use Rattle.bergman_cli.specs.Outcomes.{IsDue, IsWorkEnd, IsWorkTrace, Writes}

-- In the following, left and now are what the source tells of its bytes before and after, unread and rest what it
-- tells of all; before and after are what the sink tells.

-- a command that reads its source: all but make
abbrev pub ReadsSource : Command → Type 0
ReadsSource commands.Make = ⊥
ReadsSource command = Unit {0}

-- the words are a job with make
abbrev pub IsMade : List (List ℕ) → Type 0
IsMade words = (job : Job) × IsJob words job × (job.command ≡ commands.Make)

-- the text that a job works on: with make the generated one, and else what the source had
abbrev pub IsGivenTo : Command → Job → Option (List ℕ) → Option (List ℕ) → List ℕ → Type 0
IsGivenTo commands.Make job left now text = text ≡ generated_text job.modulus job.number job.letters
IsGivenTo command job left now text = IsInput left now text

-- its text has this reading
abbrev pub IsGivenReading : Job → Option (List ℕ) → Option (List ℕ) → Letters → List (List Term) → Type 0
IsGivenReading job left now letters relations = (text : List ℕ) × IsGivenTo job.command job left now text
    × Reads text job.modulus letters relations

-- its text has a reading, of which something holds
pub record OfGiven (job : Job) (left now : Option (List ℕ)) (Holds : Letters → List (List Term) → Type 0) : Type 0 where
  pub text : List ℕ
  pub is_given : IsGivenTo job.command job left now text
  pub letters : Letters
  pub relations : List (List Term)
  pub reads : Reads text job.modulus letters relations
  pub alphabet : IsAlphabet letters
  pub setting : IsSetting (ideal_over job.modulus letters.weights relations)
  pub holds : Holds letters relations

-- the words are a job, and of it and what is given to it something holds
abbrev pub OfWork : List (List ℕ) → Option (List ℕ) → Option (List ℕ) → (Job → Letters → List (List Term) → Type 0)
    → Type 0
OfWork words left now Holds = OfJob words (λ job. OfGiven job left now (Holds job))

-- why a job had no reading to work on
abbrev pub IsUngivenTo : Command → ℕ → SourceState → SourceState → Status → Type 0
IsUngivenTo commands.Make p unread rest status = status ≡ NoMemory
IsUngivenTo command p unread rest status = IsInputEnd p unread rest status

-- why a job ended so: it had no reading to work on and nothing was gained, or its work has ended so
abbrev pub IsJobEnd : Job → SourceState → SourceState → SinkState → SinkState → Status → Type 0
IsJobEnd job unread rest before after status =
    (IsUngivenTo job.command job.modulus unread rest status × Appends before.held after.held [])
    ⊎ OfGiven job unread.left rest.left (λ letters relations. IsWorkEnd job letters relations before after status)

-- why a run ended so
abbrev pub IsEnd : List (List ℕ) → SourceState → SourceState → SinkState → SinkState → Status → Type 0
IsEnd words unread rest before after (Usage fault) = IsUsageFault words fault
IsEnd words unread rest before after status = OfJob words (λ job. IsJobEnd job unread rest before after status)

-- the trace of a run that ended so: that of the work of its job, or none
abbrev pub IsRunTrace : List (List ℕ) → Option (List ℕ) → Option (List ℕ) → SinkState → SinkState → Status → List ℕ →
    Type 0
IsRunTrace words left now before after Done trace = OfWork words left now
    (λ job letters relations. IsWorkTrace job letters relations before after Done trace)
IsRunTrace words left now before after (Limit kind d value) trace =
    OfWork words left now (λ job letters relations. IsWorkTrace job letters relations before after
    (Limit kind d value) trace)
IsRunTrace words left now before after WriteFault trace = OfWork words left now
    (λ job letters relations. IsWorkTrace job letters relations before after WriteFault trace)
IsRunTrace words left now before after NoMemory trace = (trace ≡ [])
    ⊎ OfWork words left now (λ job letters relations. IsWorkTrace job letters relations before after NoMemory trace)
IsRunTrace words left now before after status trace = trace ≡ []

-- the text is told before it is read: with make the generated one, and else the bytes of the source
abbrev pub IsToldTo : Command → Job → Option (List ℕ) → List ℕ → Type 0
IsToldTo commands.Make job left text = text ≡ generated_text job.modulus job.number job.letters
IsToldTo command job left text = (left ≡ Some text) × (length text ≤ 1048576)

-- the text is told and has a reading, and this status is due on it
pub record IsDueTo (job : Job) (left : Option (List ℕ)) (status : Status) : Type 0 where
  pub text : List ℕ
  pub is_told : IsToldTo job.command job left text
  pub letters : Letters
  pub relations : List (List Term)
  pub reads : Reads text job.modulus letters relations
  pub due : IsDue job letters relations status

-- the job and the bytes that its source tells are a cause of this status
abbrev pub IsCaused : Job → Option (List ℕ) → Status → Type 0
IsCaused job left (Input TooLong) = ReadsSource job.command
    × ((text : List ℕ) × (left ≡ Some text) × (1048576 < length text))
IsCaused job left (Input (Text fault)) = ReadsSource job.command
    × ((text : List ℕ) × (left ≡ Some text) × (length text ≤ 1048576) × FirstFault text job.modulus fault)
IsCaused job left status = IsDueTo job left status

-- what may come in the place of a status: want of memory, a failed read where the source is read, and a failed write
-- where something is written
abbrev pub IsMishap : Command → Status → SourceState → SourceState → SinkState → SinkState → Status → Type 0
IsMishap command own unread rest before after NoMemory = Unit {0}
IsMishap command own unread rest before after ReadFault = ReadsSource command × Rose unread.faults rest.faults
IsMishap command own unread rest before after WriteFault = Writes command own × Rose before.faults after.faults
IsMishap command own unread rest before after status = ⊥

-- a status comes where its cause stands, or a mishap in its place
abbrev pub Completes : List (List ℕ) → SourceState → SourceState → SinkState → SinkState → Status → Type 0
Completes words unread rest before after status =
    (job : Job) (own : Status) → IsJob words job → IsCaused job unread.left own → (status ≡ own)
    ⊎ IsMishap job.command own unread rest before after status
