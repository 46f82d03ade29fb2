-- The line that is told of a status.
use Rattle.std.specs.Prelude.{ℕ, List, [], ◌++◌, codes, decimal}
use Rattle.command_words.specs.declared.job.UsageFault.{UsageFault}
use Rattle.command_words.specs.declared.job.UsageFault.TheVariants as usage
use Rattle.command_words.specs.Keys.{name_of}
use Rattle.ideal_laws.specs.declared.limits.LimitKind.{LimitKind}
use Rattle.ideal_laws.specs.declared.limits.LimitKind.TheVariants as kinds
use Rattle.relation_reader.specs.declared.fault.InputFault.{InputFault}
use Rattle.relation_reader.specs.declared.fault.InputFault.TheVariants as faults
use Rattle.relation_reader.specs.declared.fault.Want.{Want}
use Rattle.relation_reader.specs.declared.fault.Want.TheVariants as wants
use Rattle.job_steps.specs.declared.status.InputProblem.{InputProblem}
use Rattle.job_steps.specs.declared.status.InputProblem.TheVariants as problems
use Rattle.job_steps.specs.declared.status.Status.{Status}
use Rattle.job_steps.specs.declared.status.Status.TheVariants as statuses

-- a line begins with the name of the program
abbrev pub line : List ℕ → List ℕ
line text = codes "bergman: " ++ (text ++ codes "\n")

-- a number with what is told of it
abbrev pub numbered : List ℕ → ℕ → List ℕ → List ℕ
numbered name number text = name ++ (codes " " ++ (decimal number ++ (codes ": " ++ text)))

abbrev pub usage_text : UsageFault → List ℕ
usage_text usage.NoCommand = codes "no command"
usage_text usage.UnknownCommand = codes "unknown command"
usage_text (usage.UnknownKey word) = numbered (codes "word") word (codes "unknown key")
usage_text (usage.RepeatedKey word) = numbered (codes "word") word (codes "repeated key")
usage_text (usage.BadValue word) = numbered (codes "word") word (codes "bad value")
usage_text (usage.MissingKey key) = codes "missing " ++ name_of key

abbrev pub want_text : Want → List ℕ
want_text wants.Vars = codes "vars"
want_text wants.Name = codes "a name"
want_text wants.ListMark = codes ", or ;"
want_text wants.Term = codes "a term"
want_text wants.Factor = codes "a factor"
want_text wants.Exponent = codes "an exponent"
want_text wants.Operator = codes "an operator"
want_text wants.Weight = codes "a weight"

abbrev pub input_text : InputFault → List ℕ
input_text (faults.BadByte at) = numbered (codes "byte") at (codes "bad byte")
input_text (faults.NumberTooWide at) = numbered (codes "byte") at (codes "number too wide")
input_text (faults.Expected at what) = numbered (codes "byte") at (codes "expected " ++ want_text what)
input_text (faults.NoVariable at) = numbered (codes "byte") at (codes "no variable")
input_text (faults.AfterEnd at) = numbered (codes "byte") at (codes "text after the end")
input_text (faults.NameTooLong at) = numbered (codes "byte") at (codes "name too long")
input_text (faults.TooManyVariables at) = numbered (codes "byte") at (codes "too many variables")
input_text (faults.RepeatedVariable at) = numbered (codes "byte") at (codes "repeated variable")
input_text (faults.WeightOutOfRange at) = numbered (codes "byte") at (codes "weight out of range")
input_text (faults.TooManyRelations at) = numbered (codes "byte") at (codes "too many relations")
input_text (faults.UnknownVariable at) = numbered (codes "byte") at (codes "unknown variable")
input_text (faults.ExponentTooLarge at) = numbered (codes "byte") at (codes "exponent too large")
input_text (faults.WordTooLong at) = numbered (codes "byte") at (codes "word too long")
input_text (faults.NotHomogeneous relation) = numbered (codes "relation") relation (codes "not homogeneous")
input_text (faults.Constant relation) = numbered (codes "relation") relation (codes "constant")

abbrev pub kind_text : LimitKind → List ℕ
kind_text kinds.PlainWords = codes "plain words"
kind_text kinds.Rows = codes "rows"
kind_text kinds.Columns = codes "columns"
kind_text kinds.Entries = codes "entries"
kind_text kinds.Cells = codes "cells"
kind_text kinds.Terms = codes "terms"
kind_text kinds.NormalWords = codes "normal words"

-- a number of what is too few
abbrev pub counted : ℕ → List ℕ → List ℕ
counted number text = codes "only " ++ (decimal number ++ text)

abbrev pub problem_text : InputProblem → List ℕ
problem_text problems.TooLong = codes "more than 1048576 bytes"
problem_text (problems.Text fault) = input_text fault
problem_text (problems.TooFewNames names) = counted names (codes " names")
problem_text (problems.Shape relation) = numbered (codes "relation") relation (codes "not of an ideal or a module")
problem_text (problems.TooFewRelations relations) = counted relations (codes " relations")
problem_text (problems.AboveBound relation) = numbered (codes "relation") relation (codes "above the bound")

-- what passed its limit, with its kept value
abbrev pub limit_text : List ℕ → ℕ → ℕ → List ℕ
limit_text name degree value =
    codes "limit: " ++ (name ++ (codes " " ++ (decimal value ++ (codes " in degree " ++ decimal degree))))

-- a run that is done tells nothing
abbrev pub fault_line : Status → List ℕ
fault_line statuses.Done = []
fault_line (statuses.Usage fault) = line (codes "usage: " ++ usage_text fault)
fault_line (statuses.Input problem) = line (codes "input: " ++ problem_text problem)
fault_line (statuses.Limit kind degree value) = line (limit_text (kind_text kind) degree value)
fault_line (statuses.Chains degree value) = line (limit_text (codes "chains") degree value)
fault_line (statuses.Products degree value) = line (limit_text (codes "products") degree value)
fault_line statuses.ReadFault = line (codes "read fault")
fault_line statuses.WriteFault = line (codes "write fault")
fault_line statuses.NoMemory = line (codes "no memory")
