-- What the command module asks of letters and relations, and what it prints. The last letters are the generators of a
-- right module.
use Rattle.std.specs.Prelude.{ℕ, ◌≡◌, ◌⊎◌, ◌+◌, ◌-◌, ◌<◌, ◌≤◌, List, [], ◌++◌, All, codes, length, slice_index}
use Rattle.std.specs.Prelude.{slice_index_or}
use Rattle.words.specs.Names.{Letters}
use Rattle.free_poly.specs.declared.term.Term.{Term}
use Rattle.ideal_laws.specs.Ideal.{Ideal, ideal_over}
use Rattle.ideal_laws.specs.declared.limits.LimitKind.TheVariants.{NormalWords}
use Rattle.ideal_laws.specs.Limits.{standard_limits}
use Rattle.ideal_laws.specs.Quantities.{IsFirstRefused, NonePassesUpto}
use Rattle.poly_writer.specs.Texts.{basis_text, line, series_lines}
use Rattle.right_modules.specs.Answered.{IsFirstOther}
use Rattle.right_modules.specs.Module.{IsShaped}
use Rattle.right_modules.specs.ModuleBasis.{IsModuleBasis}
use Rattle.right_modules.specs.ModuleDimension.{IsModuleCoefficient}
use Rattle.command_words.specs.declared.job.Job.{Job}
use Rattle.job_steps.specs.declared.status.InputProblem.TheVariants.{TooFewNames, Shape}
use Rattle.job_steps.specs.declared.status.Status.{Status}
use Rattle.job_steps.specs.declared.status.Status.TheVariants.{Done, Input, Limit}
use Rattle.job_steps.specs.Progress.{IsPart}
use Rattle.bergman_cli.specs.Engines.{limits_of}
use Rattle.bergman_cli.specs.Gb.{shows_basis, shows_series}

-- how many letters are no generators
abbrev pub free_of : Job → Letters → ℕ
free_of job letters = length letters.weights - job.gens

-- there are letters for the generators, and each relation is one of the algebra or one of the module
abbrev pub IsOfModule : Job → Letters → List (List Term) → Type 0
IsOfModule job letters relations = (job.gens ≤ length letters.weights) × All (IsShaped (free_of job letters)) relations

-- up to the bound no quantity of the job's engine passes its limit on all relations together
abbrev pub PassesNoLimit : Job → Letters → List (List Term) → Type 0
PassesNoLimit job letters relations = NonePassesUpto (ideal_over job.modulus letters.weights relations)
    (limits_of job.engine)
    job.bound

-- in the degrees below d the module coefficients are at most the limit
abbrev pub AreFewBelow : Ideal → ℕ → ℕ → ℕ → Type 0
AreFewBelow ideal free limit d = (e : ℕ) → e < d → (h : ℕ) × IsModuleCoefficient ideal free e h × (h ≤ limit)

-- d is the first degree with a greater module coefficient, and the kept value is the limit plus 1
pub record IsFirstLargeModule (ideal : Ideal) (free : ℕ) (limit d value : ℕ) : Type 0 where
  pub before : AreFewBelow ideal free limit d
  pub coefficient : ℕ
  pub is_coefficient : IsModuleCoefficient ideal free d coefficient
  pub large : limit < coefficient
  pub kept : value ≡ limit + 1

-- behind the limits of the engine comes that of the normal module words
abbrev pub IsCrowded : Job → Letters → List (List Term) → ℕ → ℕ → Type 0
IsCrowded job letters relations d value =
    PassesNoLimit job letters relations × (d ≤ job.bound)
    × IsFirstLargeModule (ideal_over job.modulus letters.weights relations) (free_of job letters)
    standard_limits.normal_words d value

-- the status that is due
abbrev pub IsModuleStatus : Job → Letters → List (List Term) → Status → Type 0
IsModuleStatus job letters relations (Input (TooFewNames names)) = (names < job.gens) × (names ≡ length letters.weights)
IsModuleStatus job letters relations (Input (Shape relation)) = (job.gens ≤ length letters.weights)
    × IsFirstOther (free_of job letters) relations relation
IsModuleStatus job letters relations (Limit kind d value) = IsOfModule job letters relations
    × (IsFirstRefused (ideal_over job.modulus letters.weights relations) (limits_of job.engine) job.bound kind d value
    ⊎ ((kind ≡ NormalWords) × IsCrowded job letters relations d value))
IsModuleStatus job letters relations Done = IsOfModule job letters relations × PassesNoLimit job letters relations
    × AreFewBelow (ideal_over job.modulus letters.weights relations) (free_of job letters) standard_limits.normal_words
    (job.bound + 1)
IsModuleStatus job letters relations status = ⊥

-- the printed reduced module bases of degrees 1 to the bound
pub record IsModuleBasisText (p : ℕ) (letters : Letters) (free : ℕ) (relations : List (List Term)) (bound : ℕ)
    (text : List ℕ) : Type 0 where
  pub bases : List (List (List Term))
  pub count : length bases ≡ bound
  pub each : (k : ℕ) → k < bound → IsModuleBasis (ideal_over p letters.weights relations) free (k + 1)
      (slice_index_or bases k [])
  pub printed : text ≡ basis_text letters.names p bases

-- the series text of a module's numbers of degrees 0, 1, ..
abbrev pub module_series_text : List ℕ → List ℕ
module_series_text numbers = line (codes "% module series") ++ series_lines 0 numbers

-- the printed module coefficients of degrees 0 to the bound
pub record IsModuleSeriesText (ideal : Ideal) (free bound : ℕ) (text : List ℕ) : Type 0 where
  pub numbers : List ℕ
  pub count : length numbers ≡ bound + 1
  pub each : (k : ℕ) → k < bound + 1 → IsModuleCoefficient ideal free k (slice_index numbers k)
  pub printed : text ≡ module_series_text numbers

-- the basis and then the series, as far as they are shown
pub record IsModuleText (job : Job) (letters : Letters) (relations : List (List Term)) (text : List ℕ) : Type 0 where
  pub basis : List ℕ
  pub series : List ℕ
  pub is_basis : IsPart (shows_basis job.show) (IsModuleBasisText job.modulus letters (free_of job letters)
      relations job.bound) basis
  pub is_series : IsPart (shows_series job.show) (IsModuleSeriesText (ideal_over job.modulus letters.weights relations)
      (free_of job letters) job.bound) series
  pub joined : text ≡ basis ++ series

-- what is printed with this status: the module text, or nothing
abbrev pub IsTextWith : Job → Letters → List (List Term) → Status → List ℕ → Type 0
IsTextWith job letters relations Done text = IsModuleText job letters relations text
IsTextWith job letters relations status text = text ≡ []

-- an end of the command, with its text
abbrev pub IsModuleOutcome : Job → Letters → List (List Term) → Status → List ℕ → Type 0
IsModuleOutcome job letters relations status text = IsModuleStatus job letters relations status
    × IsTextWith job letters relations status text
