-- What the command make asks of the relations of a generated text, and the summary that it prints.
use Rattle.std.specs.Prelude.{ℕ, ◌≡◌, ◌+◌, true, false, List, [], ◌++◌, codes, decimal, length, sum_by}
use Rattle.std.specs.List.{flat_map}
use Rattle.words.specs.Names.{Letters}
use Rattle.free_poly.specs.declared.term.Term.{Term}
use Rattle.ideal_laws.specs.Dimension.{IsHilbertCoefficient}
use Rattle.ideal_laws.specs.Engine.{Elements}
use Rattle.ideal_laws.specs.Ideal.{ideal_over}
use Rattle.ideal_laws.specs.Kept.{IsBelow}
use Rattle.ideal_laws.specs.Quantities.{terms_in}
use Rattle.poly_writer.specs.Texts.{line}
use Rattle.command_words.specs.declared.job.Job.{Job}
use Rattle.job_steps.specs.declared.status.Status.{Status}
use Rattle.job_steps.specs.declared.status.Status.TheVariants.{Done}
use Rattle.job_steps.specs.Progress.{Task}
use Rattle.job_steps.specs.Statuses.{IsTaskStatus}
use Rattle.bergman_cli.specs.Jobs.{job_task}

-- the series alone, up to the bound
abbrev pub make_task : Job → Letters → List (List Term) → Task
make_task job letters relations = job_task job letters relations false true

-- the sum of all coefficients, as numbers from 0 to p - 1
abbrev pub coefficient_sum : List (List Term) → ℕ
coefficient_sum fs = sum_by (λ t. t.coefficient) (flat_map (λ f. f) fs)

-- a line with a number
abbrev pub number_line : List ℕ → ℕ → List ℕ
number_line name number = line (name ++ codes " " ++ decimal number)

-- how many relations, the elements of the basis with their terms and the sum of their coefficients, and the last
-- coefficient
abbrev pub summary_text : ℕ → ℕ → List (List Term) → ℕ → ℕ → List ℕ
summary_text number relations elements d coefficient =
    number_line (codes "% make") number ++ number_line (codes "relations") relations
    ++ number_line (codes "elements") (length elements)
    ++ number_line (codes "terms") (terms_in elements)
    ++ number_line (codes "sum") (coefficient_sum elements)
    ++ codes "coefficient " ++ decimal d ++ number_line [] coefficient

-- the summary of the ideal of these relations, up to the bound of the job
pub record IsSummary (job : Job) (letters : Letters) (relations : List (List Term)) (text : List ℕ) : Type 0 where
  pub basis : Elements
  pub is_basis : IsBelow (ideal_over job.modulus letters.weights relations) (job.bound + 1) basis
  pub coefficient : ℕ
  pub is_coefficient : IsHilbertCoefficient (ideal_over job.modulus letters.weights relations) job.bound coefficient
  pub printed : text ≡ summary_text job.number (length relations) basis.elements job.bound coefficient

-- what is printed where the task ends so: the summary, or nothing at a limit
abbrev pub IsMakeText : Job → Letters → List (List Term) → Status → List ℕ → Type 0
IsMakeText job letters relations Done text = IsSummary job letters relations text
IsMakeText job letters relations status text = text ≡ []

-- an end of the command, with its text
abbrev pub IsMakeOutcome : Job → Letters → List (List Term) → Status → List ℕ → Type 0
IsMakeOutcome job letters relations status text = IsTaskStatus (make_task job letters relations) status
    × IsMakeText job letters relations status text
