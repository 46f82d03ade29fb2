-- The jobs that the words of a command line can be.
use Rattle.std.specs.Prelude.{ℕ, ◌≡◌, ◌<◌, ◌≤◌, ◌^◌, All, Bool, List}
use Rattle.words.specs.Names.{Letters}
use Rattle.free_poly.specs.declared.term.Term.{Term}
use Rattle.field_table.specs.Residues.{IsFieldModulus}
use Rattle.free_poly.specs.Terms.{HasResidues}
use Rattle.ideal_laws.specs.declared.limits.LimitKind.{LimitKind}
use Rattle.ideal_laws.specs.declared.presentation.Presentation.{Presentation}
use Rattle.ideal_laws.specs.Limits.{standard_limits}
use Rattle.command_words.specs.declared.job.Command.TheVariants.{Make, Module, Normal}
use Rattle.command_words.specs.declared.job.Job.{Job}
use Rattle.command_words.specs.JobOf.{IsJob}
use Rattle.job_steps.specs.Progress.{Task}
use Rattle.bergman_cli.specs.Engines.{limits_of}

-- the numbers of a job are in their ranges
pub record IsSound (job : Job) : Type 0 where
  pub modulus : IsFieldModulus job.modulus
  pub small : job.modulus < 2 ^ 31
  pub some_degree : 1 ≤ job.bound
  pub few_degrees : job.bound ≤ 64
  pub letters : job.command ≡ Make → (2 ≤ job.letters) × (job.letters ≤ 33)
  pub gens : job.command ≡ Module → (1 ≤ job.gens) × (job.gens ≤ 64)
  pub ask : job.command ≡ Normal → (1 ≤ job.ask) × (job.ask ≤ 4096)

-- what is asked of a command: a job with its numbers in their ranges, an engine with these limits that it names, the
-- field of this modulus that it names, and relations with residues of it
pub record IsAsked (job : Job) (own : List (LimitKind × ℕ)) (p : ℕ) (given : Presentation) : Type 0 where
  pub sound : IsSound job
  pub limits : own ≡ limits_of job.engine
  pub modulus : p ≡ job.modulus
  pub residues : All (HasResidues p) given.relations

-- the words are a job, of which something holds
abbrev pub OfJob : List (List ℕ) → (Job → Type 0) → Type 0
OfJob words Holds = (job : Job) × IsJob words job × Holds job

-- the basis and the series up to the bound of the job, where these parts are shown
abbrev pub job_task : Job → Letters → List (List Term) → (basis series : Bool) → Task
job_task job letters relations basis series = record {
  modulus = job.modulus;
  letters = letters;
  relations = relations;
  limits = limits_of job.engine;
  normal_words = standard_limits.normal_words;
  bound = job.bound;
  shows_basis = basis;
  shows_series = series;
}
