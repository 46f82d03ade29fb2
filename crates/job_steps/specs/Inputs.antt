-- The text that a job reads from its source, and why it has no reading.
use Rattle.std.specs.Prelude.{ℕ, ◌≤◌, List, Option, length}
use Rattle.std.specs.Io.KnownBytes.{Consumes, IsAtEnd}
use Rattle.words.specs.Names.{Letters}
use Rattle.free_poly.specs.declared.term.Term.{Term}
use Rattle.bg_io.specs.Ends.{Loses, LosesAtMost, Rose}
use Rattle.relation_reader.specs.declared.fault.InputFault.{InputFault}
use Rattle.relation_reader.specs.Meaning.{FirstFault, Reads}
use Rattle.job_steps.specs.declared.status.InputProblem.TheVariants.{TooLong, Text}
use Rattle.job_steps.specs.declared.status.Status.{Status}
use Rattle.job_steps.specs.declared.status.Status.TheVariants.{Input, ReadFault, NoMemory}
use Rattle.job_steps.specs.States.{SourceState}

-- In the following, left and now are what the source tells of its bytes before and after.

-- this is the text: all that the source had left, at most 1,048,576 bytes
pub record IsInput (left now : Option (List ℕ)) (text : List ℕ) : Type 0 where
  pub taken : Consumes left now text
  pub at_end : IsAtEnd now
  pub short : length text ≤ 1048576

-- this is a reading of the text
abbrev pub ReadsInput : ℕ → Option (List ℕ) → Option (List ℕ) → Letters → List (List Term) → Type 0
ReadsInput p left now letters relations = (text : List ℕ) × IsInput left now text × Reads text p letters relations

-- the text is refused with this fault
abbrev pub IsRefusedInput : ℕ → Option (List ℕ) → Option (List ℕ) → InputFault → Type 0
IsRefusedInput p left now fault = (text : List ℕ) × IsInput left now text × FirstFault text p fault

-- one byte more than a text may have was taken where it is too long, and elsewhere at most so many
abbrev pub IsTaken : Option (List ℕ) → Option (List ℕ) → Status → Type 0
IsTaken left now (Input TooLong) = Loses left now 1048577
IsTaken left now status = LosesAtMost left now 1048576

-- why no reading of a text was had from a source that is unread before
abbrev pub IsInputEnd : ℕ → SourceState → SourceState → Status → Type 0
IsInputEnd p unread rest (Input TooLong) = Loses unread.left rest.left 1048577
IsInputEnd p unread rest (Input (Text fault)) = IsRefusedInput p unread.left rest.left fault
IsInputEnd p unread rest ReadFault = Rose unread.faults rest.faults
IsInputEnd p unread rest NoMemory = Unit {0}
IsInputEnd p unread rest status = ⊥
