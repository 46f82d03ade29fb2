-- Command by command: what the end of the work says.
use Rattle.std.proofs.Common.{◌≡◌, ◌≢◌, ◌⊎◌, ℕ, List, [], refl, inl, inr, subst}
use Rattle.std.specs.Io.KnownBytes.{Appends}
use Rattle.words.specs.Names.{Letters}
use Rattle.free_poly.specs.declared.term.Term.{Term}
use Rattle.bg_io.specs.Ends.{Rose}
use Rattle.ideal_laws.specs.Ideal.{ideal_over}
use Rattle.ideal_laws.specs.Laws.{IsSetting}
use Rattle.command_words.specs.declared.job.Command.{Command}
use Rattle.command_words.specs.declared.job.Command.TheVariants.{Gb, Make, Module, Chains, Normal}
use Rattle.command_words.specs.declared.job.Job.{Job}
use Rattle.job_steps.specs.declared.status.Status.{Status}
use Rattle.job_steps.specs.declared.status.Status.TheVariants as statuses
use Rattle.job_steps.specs.Reaches.{IsPosed}
use Rattle.job_steps.specs.States.{SinkState}
use Rattle.job_steps.specs.Status.{PrintsNothing}
use Rattle.job_steps.specs.Statuses.{HasGained, HasGainedPart, IsAnswered, IsOwn, IsTaskEnd, IsTaskStatus, IsThis}
use Rattle.job_steps.proofs.OneOutcome.{outcome_part, outcome_some}
use Rattle.job_steps.proofs.Statuses.{answered_by, answered_gained, cut_is_some, of_parts, one_task_status, task_gained, task_outcome_status, task_status_own}
use Rattle.job_steps.proofs.Statuses.{task_status_prints}
use Rattle.bergman_cli.specs.Gb.{gb_task}
use Rattle.bergman_cli.specs.Make.{IsMakeText, make_task}
use Rattle.bergman_cli.specs.Outcomes.{HasWrittenPartOf, HasWrittenSomeOf, IsDueOf, IsOutcomeOf, IsWorkEndOf, Writes}
use Rattle.bergman_cli.proofs.Chained.{chains_own, chains_prints, chains_writes, one_chains_status}
use Rattle.bergman_cli.proofs.Modules.{module_quiet, module_status_own, module_writes, one_module_status}
use Rattle.bergman_cli.proofs.Normals.{normal_quiet, normal_status_own, normal_writes, one_normal_status}

module _ (job : Job) (letters : Letters) (relations : List (List Term)) where
  abbrev Due : Command → Status → Type 0
  Due command = IsDueOf command job letters relations

  abbrev Outcome : Command → Status → List ℕ → Type 0
  Outcome command = IsOutcomeOf command job letters relations

  -- one status is due
  pub due_is_one : (command : Command) (status other : Status) → IsSetting (ideal_over job.modulus letters.weights relations) → Due command status →
      Due command other → status ≡ other
  due_is_one Gb status other st a b = one_task_status (gb_task job letters relations) st status other a b
  due_is_one Make status other st a b = one_task_status (make_task job letters relations) st status other a b
  due_is_one Module status other st a b = one_module_status job letters relations st status other a b
  due_is_one Chains status other st a b = one_chains_status job letters relations st status other a b
  due_is_one Normal status other st a b = one_normal_status job letters relations st status other a b

  -- an outcome has the status that is due
  pub outcome_due : (command : Command) (status : Status) (text : List ℕ) → Outcome command status text → Due command status
  outcome_due Gb status text h = task_outcome_status (gb_task job letters relations) status text h
  outcome_due Normal status text h = (h.0, h.1, h.2)
  outcome_due command status text h = h.0

  -- the status that is due is one that work ends with by itself
  pub due_own : (command : Command) (status : Status) → Due command status → IsOwn status
  due_own Gb status h = task_status_own (gb_task job letters relations) status h
  due_own Make status h = task_status_own (make_task job letters relations) status h
  due_own Module status h = module_status_own job letters relations status h
  due_own Chains status h = chains_own job letters relations status h
  due_own Normal status h = normal_status_own job letters relations status h

  -- where nothing may be printed the text is empty
  pub quiet : (command : Command) (status : Status) (text : List ℕ) → Outcome command status text → PrintsNothing status → text ≡ []
  quiet Gb status text h none = absurd (task_status_prints (gb_task job letters relations) status
      (task_outcome_status (gb_task job letters relations) status text h) none)
  quiet Make status text h none = absurd (task_status_prints (make_task job letters relations) status h.0 none)
  quiet Module status text h none = module_quiet job letters relations status text h.1 none
  quiet Chains status text h none = absurd (chains_prints job letters relations status h.0 none)
  quiet Normal status text h none = normal_quiet job letters relations status text h none

  gb_writes : (status : Status) → IsTaskStatus (gb_task job letters relations) status → Writes Gb status
  gb_writes statuses.Done h = tt
  gb_writes (statuses.Limit kind d value) h = tt
  gb_writes status h = absurd h

  make_writes : (status : Status) (text : List ℕ) → IsTaskStatus (make_task job letters relations) status →
      IsMakeText job letters relations status text → text ≢ [] → Writes Make status
  make_writes statuses.Done text due h some = tt
  make_writes (statuses.Limit kind d value) text due h some = some h
  make_writes status text due h some = absurd due

  -- a text that is not empty is written
  pub some_writes : (command : Command) (status : Status) (text : List ℕ) → Outcome command status text → text ≢ [] → Writes command status
  some_writes Gb status text h some = gb_writes status (task_outcome_status (gb_task job letters relations) status text h)
  some_writes Make status text h some = make_writes status text h.0 h.1 some
  some_writes Module status text h some = module_writes job letters relations status text h.1 some
  some_writes Chains status text h some = chains_writes job letters relations status text h.0 h.1 some
  some_writes Normal status text h some = normal_writes job letters relations status text h some

  module _ (before after : SinkState) where
    abbrev Ends : Command → Status → Type 0
    Ends command = IsWorkEndOf command job letters relations before after

    -- an answer that was written at once ends the work
    pub answer_ends : (command : Command) → command ≢ Gb → command ≢ Normal → (own : Status) (text : List ℕ) → Outcome command own text → (status : Status) →
        IsAnswered (IsThis own text) before after status → Ends command status
    answer_ends Gb degrees questions own text is status h = absurd (degrees refl)
    answer_ends Normal degrees questions own text is status h = absurd (questions refl)
    answer_ends command degrees questions own text is status h = answered_by (Outcome command) before after own text is status h

    -- work that ended by itself has gained the text of an outcome
    pub work_gained : (command : Command) (status : Status) → Ends command status → IsOwn status → HasGained before after (Outcome command status)
    work_gained Gb status h own = task_gained (gb_task job letters relations) before after status h own
    work_gained Normal status h own = answered_gained (Outcome Normal) before after status
        (of_parts (Outcome Normal) before after status (λ is. subst IsOwn is own) h) own
    work_gained command status h own = answered_gained (Outcome command) before after status h own

    -- where work ends with a write fault, the count of faults rose
    pub work_write : (command : Command) → Ends command statuses.WriteFault → Rose before.faults after.faults
    work_write Gb h = h.0
    work_write command h = h.0

    module _ (posed : IsPosed (gb_task job letters relations)) where
      -- and a proper prefix of the text of an outcome was gained
      pub work_part : (command : Command) → Ends command statuses.WriteFault → HasWrittenPartOf command job letters relations before after
      work_part Gb h = (outcome_part (gb_task job letters relations) posed before after h.1, h.1)
      work_part command h = h.1

      -- where memory is wanting, nothing was gained or some prefix of such a text
      pub work_memory : (command : Command) → Ends command statuses.NoMemory →
          Appends before.held after.held [] ⊎ HasWrittenSomeOf command job letters relations before after
      work_memory Gb h = inr (outcome_some (gb_task job letters relations) posed before after h, h)
      work_memory Normal h = h
      work_memory command h = inl h

    part_writes : (command : Command) (own : Status) → IsSetting (ideal_over job.modulus letters.weights relations) → Due command own →
        HasGainedPart before after (Outcome command) → Writes command own
    part_writes command own st due h =
        let same = due_is_one command h.0 own st (outcome_due command h.0 h.1 h.2) due in
        subst (Writes command) same (some_writes command h.0 h.1 h.2 (cut_is_some h.3.gained h.1 h.3.cut_short))

    -- a write fails only where the status that is due has something written
    pub failed_writes : (command : Command) (own : Status) → IsSetting (ideal_over job.modulus letters.weights relations) → Due command own →
        Ends command statuses.WriteFault → Writes command own
    failed_writes Gb own st due h = gb_writes own due
    failed_writes command own st due h = part_writes command own st due h.1

    gb_never : (status : Status) → (IsOwn status → ⊥) → status ≢ statuses.WriteFault → status ≢ statuses.NoMemory →
        IsTaskEnd (gb_task job letters relations) before after status → ⊥
    gb_never statuses.Done own write memory h = own tt
    gb_never (statuses.Limit kind d value) own write memory h = own tt
    gb_never statuses.WriteFault own write memory h = write refl
    gb_never statuses.NoMemory own write memory h = memory refl
    gb_never status own write memory h = h

    gained_own : (command : Command) (status : Status) → HasGained before after (Outcome command status) → IsOwn status
    gained_own command status h = due_own command status (outcome_due command status h.0 h.1)

    answered_never : (command : Command) (status : Status) → (IsOwn status → ⊥) → status ≢ statuses.WriteFault → status ≢ statuses.NoMemory
        → IsAnswered (Outcome command) before after status → ⊥
    answered_never command statuses.Done own write memory h = own tt
    answered_never command (statuses.Usage fault) own write memory h = own (gained_own command (statuses.Usage fault) h)
    answered_never command (statuses.Input problem) own write memory h = own (gained_own command (statuses.Input problem) h)
    answered_never command (statuses.Limit kind d value) own write memory h = own tt
    answered_never command (statuses.Chains d value) own write memory h = own tt
    answered_never command (statuses.Products d value) own write memory h = own tt
    answered_never command statuses.ReadFault own write memory h = own (gained_own command statuses.ReadFault h)
    answered_never command statuses.WriteFault own write memory h = write refl
    answered_never command statuses.NoMemory own write memory h = memory refl

    -- a status that the work does not end with
    pub never : (command : Command) (status : Status) → (IsOwn status → ⊥) → status ≢ statuses.WriteFault → status ≢ statuses.NoMemory → Ends command status → ⊥
    never Gb status own write memory h = gb_never status own write memory h
    never Normal status own write memory h = answered_never Normal status own write memory
        (of_parts (Outcome Normal) before after status memory h)
    never command status own write memory h = answered_never command status own write memory h
