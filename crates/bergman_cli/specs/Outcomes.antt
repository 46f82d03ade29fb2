-- Command by command: what a run of a job on letters and relations may end with, and what it has printed then.
use Rattle.std.specs.Prelude.{ℕ, ◌≡◌, List, []}
use Rattle.words.specs.Names.{Letters}
use Rattle.free_poly.specs.declared.term.Term.{Term}
use Rattle.command_words.specs.declared.job.Command.{Command}
use Rattle.command_words.specs.declared.job.Command.TheVariants.{Gb, Make, Module, Chains, Normal}
use Rattle.command_words.specs.declared.job.Job.{Job}
use Rattle.job_steps.specs.declared.status.Status.{Status}
use Rattle.job_steps.specs.declared.status.Status.TheVariants as statuses
use Rattle.job_steps.specs.Gains.{HasPrintedPart, HasPrintedSome}
use Rattle.job_steps.specs.States.{SinkState}
use Rattle.job_steps.specs.Statuses.{HasGainedPart, HasGainedSome, IsAnswered, IsAnsweredInParts, IsTaskEnd}
use Rattle.job_steps.specs.Statuses.{IsTaskOutcome, IsTaskStatus}
use Rattle.job_steps.specs.Traces.{IsTaskTrace}
use Rattle.bergman_cli.specs.Engines.{accounts_of, traces_of}
use Rattle.bergman_cli.specs.Gb.{gb_task}
use Rattle.bergman_cli.specs.Make.{IsMakeOutcome, make_task}
use Rattle.bergman_cli.specs.Module.{IsModuleOutcome, IsModuleStatus}
use Rattle.bergman_cli.specs.Chains.{IsChainsOutcome, IsChainsStatus}
use Rattle.bergman_cli.specs.Normal.{IsNormalOutcome, IsNormalStatus}

-- In the following, before and after are what the sink tells before the work and after it.

-- the status that is due: no limit of the job is passed, or this one is the first
abbrev pub IsDueOf : Command → Job → Letters → List (List Term) → Status → Type 0
IsDueOf Gb job letters relations status = IsTaskStatus (gb_task job letters relations) status
IsDueOf Make job letters relations status = IsTaskStatus (make_task job letters relations) status
IsDueOf Module job letters relations status = IsModuleStatus job letters relations status
IsDueOf Chains job letters relations status = IsChainsStatus job letters relations status
IsDueOf Normal job letters relations status = IsNormalStatus job letters relations status

abbrev pub IsDue : Job → Letters → List (List Term) → Status → Type 0
IsDue job = IsDueOf job.command job

-- this status is due, and the text goes with it
abbrev pub IsOutcomeOf : Command → Job → Letters → List (List Term) → Status → List ℕ → Type 0
IsOutcomeOf Gb job letters relations status text = IsTaskOutcome (gb_task job letters relations) status text
IsOutcomeOf Make job letters relations status text = IsMakeOutcome job letters relations status text
IsOutcomeOf Module job letters relations status text = IsModuleOutcome job letters relations status text
IsOutcomeOf Chains job letters relations status text = IsChainsOutcome job letters relations status text
IsOutcomeOf Normal job letters relations status text = IsNormalOutcome job letters relations status text

abbrev pub IsOutcome : Job → Letters → List (List Term) → Status → List ℕ → Type 0
IsOutcome job = IsOutcomeOf job.command job

-- what was gained where a write failed: a proper prefix of the text of an outcome; and with gb, whose lines are
-- written on the way, of what was due then
abbrev pub HasWrittenPartOf : Command → Job → Letters → List (List Term) → SinkState → SinkState → Type 0
HasWrittenPartOf Gb job letters relations before after =
    HasGainedPart before after (IsOutcomeOf Gb job letters relations)
    × HasPrintedPart (gb_task job letters relations) before after
HasWrittenPartOf command job letters relations before after =
    HasGainedPart before after (IsOutcomeOf command job letters relations)

abbrev pub HasWrittenPart : Job → Letters → List (List Term) → SinkState → SinkState → Type 0
HasWrittenPart job = HasWrittenPartOf job.command job

-- the same of a prefix where memory was wanting, if something was gained
abbrev pub HasWrittenSomeOf : Command → Job → Letters → List (List Term) → SinkState → SinkState → Type 0
HasWrittenSomeOf Gb job letters relations before after =
    HasGainedSome before after (IsOutcomeOf Gb job letters relations)
    × HasPrintedSome (gb_task job letters relations) before after
HasWrittenSomeOf Normal job letters relations before after =
    HasGainedSome before after (IsOutcomeOf Normal job letters relations)
HasWrittenSomeOf command job letters relations before after = ⊥

abbrev pub HasWrittenSome : Job → Letters → List (List Term) → SinkState → SinkState → Type 0
HasWrittenSome job = HasWrittenSomeOf job.command job

-- how the work on these letters and relations ended, and what was gained of its text
abbrev pub IsWorkEndOf : Command → Job → Letters → List (List Term) → SinkState → SinkState → Status → Type 0
IsWorkEndOf Gb job letters relations = IsTaskEnd (gb_task job letters relations)
IsWorkEndOf Normal job letters relations = IsAnsweredInParts (IsOutcomeOf Normal job letters relations)
IsWorkEndOf command job letters relations = IsAnswered (IsOutcomeOf command job letters relations)

abbrev pub IsWorkEnd : Job → Letters → List (List Term) → SinkState → SinkState → Status → Type 0
IsWorkEnd job = IsWorkEndOf job.command job

-- the trace that was told of the work: that of gb
abbrev pub IsWorkTraceOf : Command → Job → Letters → List (List Term) → SinkState → SinkState → Status → List ℕ → Type 0
IsWorkTraceOf Gb job letters relations before after status trace =
    IsTaskTrace (accounts_of job) (traces_of job) (gb_task job letters relations) before after status trace
IsWorkTraceOf command job letters relations before after status trace = trace ≡ []

abbrev pub IsWorkTrace : Job → Letters → List (List Term) → SinkState → SinkState → Status → List ℕ → Type 0
IsWorkTrace job = IsWorkTraceOf job.command job

-- with this status a run of the command writes something
abbrev pub Writes : Command → Status → Type 0
Writes command statuses.Done = Unit {0}
Writes Gb (statuses.Limit kind d value) = Unit {0}
Writes command (statuses.Products d value) = Unit {0}
Writes command status = ⊥
