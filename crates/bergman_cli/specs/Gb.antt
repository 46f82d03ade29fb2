-- What the command gb asks of letters and relations, and that it has one outcome.
use Rattle.std.specs.Prelude.{ℕ, Bool, true, false, List}
use Rattle.words.specs.Names.{IsAlphabet, Letters}
use Rattle.free_poly.specs.declared.term.Term.{Term}
use Rattle.ideal_laws.specs.Ideal.{ideal_over}
use Rattle.ideal_laws.specs.Laws.{IsOne, IsSetting}
use Rattle.command_words.specs.declared.job.Job.{Job}
use Rattle.command_words.specs.declared.job.Show.{Show}
use Rattle.command_words.specs.declared.job.Show.TheVariants.{Basis, Series, Both}
use Rattle.job_steps.specs.declared.status.Status.{Status}
use Rattle.job_steps.specs.Progress.{Task}
use Rattle.job_steps.specs.Statuses.{IsTaskOutcome}
use Rattle.bergman_cli.specs.Jobs.{IsSound, job_task}

abbrev pub shows_basis : Show → Bool
shows_basis Basis = true
shows_basis Series = false
shows_basis Both = true

abbrev pub shows_series : Show → Bool
shows_series Basis = false
shows_series Series = true
shows_series Both = true

-- the basis and the series up to the bound, as far as they are shown
abbrev pub gb_task : Job → Letters → List (List Term) → Task
gb_task job letters relations = job_task job letters relations (shows_basis job.show) (shows_series job.show)

-- a job on letters and relations has exactly one status with its text
abbrev pub HasOneGbOutcome : Type 0
HasOneGbOutcome = (job : Job) (letters : Letters) (relations : List (List Term)) → IsSound job → IsAlphabet letters →
    IsSetting (ideal_over job.modulus letters.weights relations)
    → IsOne (λ (o : Status × List ℕ). IsTaskOutcome (gb_task job letters relations) o.0 o.1)
