-- What a status says by itself.
use Rattle.std.specs.Prelude.{ℕ}
use Rattle.job_steps.specs.declared.status.InputProblem.TheVariants.{TooLong, Text}
use Rattle.job_steps.specs.declared.status.Status.{Status}
use Rattle.job_steps.specs.declared.status.Status.TheVariants.{Done, Usage, Input, Limit, Chains, Products}
use Rattle.job_steps.specs.declared.status.Status.TheVariants.{ReadFault, WriteFault, NoMemory}

-- the number that the process ends with
abbrev pub code_of : Status → ℕ
code_of Done = 0
code_of (Usage fault) = 2
code_of (Input problem) = 3
code_of (Limit kind degree value) = 4
code_of (Chains degree value) = 4
code_of (Products degree value) = 4
code_of ReadFault = 5
code_of WriteFault = 6
code_of NoMemory = 7

-- a status of runs that read nothing
abbrev pub ReadsNothing : Status → Type 0
ReadsNothing (Usage fault) = Unit {0}
ReadsNothing status = ⊥

-- a status of runs that had no reading of a text
abbrev pub IsOfInput : Status → Type 0
IsOfInput (Input TooLong) = Unit {0}
IsOfInput (Input (Text fault)) = Unit {0}
IsOfInput ReadFault = Unit {0}
IsOfInput status = ⊥

-- a status of runs that write nothing to their output
abbrev pub PrintsNothing : Status → Type 0
PrintsNothing (Usage fault) = Unit {0}
PrintsNothing (Input problem) = Unit {0}
PrintsNothing ReadFault = Unit {0}
PrintsNothing status = ⊥
