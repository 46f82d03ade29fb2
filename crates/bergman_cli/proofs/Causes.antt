-- What the end of a run says of its status.
use Rattle.std.proofs.Common.{◌≡◌, ◌≢◌, ◌⊎◌, ◌↔◌, ◌≤◌, ◌∙◌, ℕ, List, [], refl, ap, inl, inr, subst}
use Rattle.std.specs.Io.KnownBytes.{Appends}
use Rattle.std.specs.declared.option.Option.{Option}
use Rattle.words.specs.Names.{Letters}
use Rattle.free_poly.specs.declared.term.Term.{Term}
use Rattle.bg_io.specs.Ends.{Rose}
use Rattle.command_words.specs.declared.job.Command.{Command}
use Rattle.command_words.specs.declared.job.Job.{Job}
use Rattle.command_words.specs.declared.job.UsageFault.{UsageFault}
use Rattle.command_words.specs.JobOf.{HasOneAnswer, IsUsageFault}
use Rattle.job_steps.specs.declared.status.InputProblem.TheVariants.{TooLong, Text}
use Rattle.job_steps.specs.declared.status.Status.{Status}
use Rattle.job_steps.specs.declared.status.Status.TheVariants.{Usage, Input, ReadFault, WriteFault, NoMemory}
use Rattle.job_steps.specs.Inputs.{IsInputEnd}
use Rattle.job_steps.specs.States.{SinkState, SourceState}
use Rattle.job_steps.specs.Status.{IsOfInput, ReadsNothing}
use Rattle.job_steps.specs.Statuses.{HasGained, IsOwn}
use Rattle.bergman_cli.specs.Jobs.{OfJob}
use Rattle.bergman_cli.specs.Outcomes.{HasWrittenPart, HasWrittenSome, IsOutcome}
use Rattle.bergman_cli.specs.Run.{IsEnd, IsJobEnd, IsUngivenTo, OfGiven, OfWork, ReadsSource}
use Rattle.bergman_cli.proofs.Given.{make_or_reads}
use Rattle.bergman_cli.proofs.Given.{ungiven_input}
use Rattle.bergman_cli.proofs.Jobs.{bound_range, no_fault, one_fault}
use Rattle.bergman_cli.proofs.Posed.{gb_posed}
use Rattle.bergman_cli.proofs.Works.{never, work_gained, work_memory, work_part, work_write}

-- an end of the input is one of few statuses
module _ (p : ℕ) (unread rest : SourceState) where
  input_not : (status : Status) → IsInputEnd p unread rest status → (IsOfInput status → ⊥) → status ≢ NoMemory → ⊥
  input_not (Input TooLong) h none memory = none tt
  input_not (Input (Text fault)) h none memory = none tt
  input_not ReadFault h none memory = none tt
  input_not NoMemory h none memory = memory refl
  input_not status h none memory = h

  -- a job without a reading ends with a status of the input or for want of memory
  pub ungiven_not : (command : Command) (status : Status) → IsUngivenTo command p unread rest status → (IsOfInput status → ⊥) → status ≢ NoMemory → ⊥
  ungiven_not command status h none memory = elim (make_or_reads command) [
    | inl make ↦ memory (subst (λ (c : Command). IsUngivenTo c p unread rest status) make h)
    | inr reads ↦ input_not status (ungiven_input p unread rest status command reads h) none memory
  ]

own_is_not_of_input : (status : Status) → IsOwn status → IsOfInput status → ⊥
own_is_not_of_input (Input TooLong) own of = own
own_is_not_of_input (Input (Text fault)) own of = own
own_is_not_of_input ReadFault own of = own
own_is_not_of_input status own of = of

own_is_not : (status other : Status) → (IsOwn other → ⊥) → IsOwn status → status ≢ other
own_is_not status other none own is = none (subst IsOwn is own)

of_input_is_not : (status other : Status) → (IsOfInput other → ⊥) → IsOfInput status → status ≢ other
of_input_is_not status other none own is = none (subst IsOfInput is own)

-- a usage fault, or a status of a run that read its words as a job
usage_or_job : (status : Status) → ((fault : UsageFault) × (status ≡ Usage fault)) ⊎ (ReadsNothing status → ⊥)
usage_or_job (Usage fault) = inl (fault, refl)
usage_or_job status = inr (λ none. none)

-- what no usage fault has, no status has of a run that reads nothing
pub reads_nothing_not : (P : Status → Type 0) → ((fault : UsageFault) → P (Usage fault) → ⊥) → (status : Status) → ReadsNothing status → P status → ⊥
reads_nothing_not P never status none h = elim (usage_or_job status) [
  | inl own ↦ never own.0 (subst P own.1 h)
  | inr some ↦ some none
]

not_both : (status : Status) → ReadsNothing status → IsOwn status → ⊥
not_both status none own = reads_nothing_not IsOwn (λ fault h. h) status none own

not_both_input : (status : Status) → ReadsNothing status → IsOfInput status → ⊥
not_both_input status none of = reads_nothing_not IsOfInput (λ fault h. h) status none of

-- something else holds of the same reading
given_so : (job : Job) (left now : Option (List ℕ)) (Holds Other : Letters → List (List Term) → Type 0) → (h : OfGiven job left now Holds) →
    Other h.letters h.relations → OfGiven job left now Other
given_so job left now Holds Other h other = record {
  text = h.text;
  is_given = h.is_given;
  letters = h.letters;
  relations = h.relations;
  reads = h.reads;
  alphabet = h.alphabet;
  setting = h.setting;
  holds = other;
}

module _ (job : Job) (unread rest : SourceState) (before after : SinkState) where
  abbrev Ends : Status → Type 0
  Ends = IsJobEnd job unread rest before after

  -- where a job ends by itself, the text of an outcome with this status was gained
  pub job_own : (status : Status) → Ends status → IsOwn status → OfGiven job unread.left rest.left
      (λ letters relations. HasGained before after (IsOutcome job letters relations status))
  job_own status (inl h) own = absurd (ungiven_not job.modulus unread rest job.command status h.0 (own_is_not_of_input status own)
      (own_is_not status NoMemory (λ none. none) own))
  job_own status (inr h) own = given_so job unread.left rest.left _ _ h (work_gained job h.letters h.relations before after job.command status h.holds own)

  -- where it ends at its input, its command reads the source and the input has this end
  pub job_input : (status : Status) → Ends status → IsOfInput status → ReadsSource job.command × IsInputEnd job.modulus unread rest status
  job_input status (inl h) of = elim (make_or_reads job.command) [
    | inl make ↦ absurd (of_input_is_not status NoMemory (λ none. none) of (subst (λ (c : Command). IsUngivenTo c job.modulus unread rest status) make h.0))
    | inr reads ↦ (reads, ungiven_input job.modulus unread rest status job.command reads h.0)
  ]
  job_input status (inr h) of =
      absurd (never job h.letters h.relations before after job.command status (λ own. own_is_not_of_input status own of)
      (of_input_is_not status WriteFault (λ none. none) of) (of_input_is_not status NoMemory (λ none. none) of) h.holds)

  -- where it ends with a write fault, the count of faults rose
  pub job_write : Ends WriteFault → Rose before.faults after.faults
  job_write (inl h) = absurd (ungiven_not job.modulus unread rest job.command WriteFault h.0 (λ none. none) (λ is. cc))
  job_write (inr h) = work_write job h.letters h.relations before after job.command h.holds

  -- and a proper prefix of the text of an outcome was gained
  pub job_part : job.bound ≤ 64 → Ends WriteFault → OfGiven job unread.left rest.left (λ letters relations. HasWrittenPart job letters relations before after)
  job_part few (inl h) = absurd (ungiven_not job.modulus unread rest job.command WriteFault h.0 (λ none. none) (λ is. cc))
  job_part few (inr h) = given_so job unread.left rest.left _ _ h
      (work_part job h.letters h.relations before after (gb_posed job h.letters h.relations few h.alphabet h.setting) job.command h.holds)

  -- where memory is wanting, nothing was gained or some prefix of such a text
  pub job_memory : job.bound ≤ 64 → Ends NoMemory →
      Appends before.held after.held [] ⊎ OfGiven job unread.left rest.left (λ letters relations. HasWrittenSome job letters relations before after)
  job_memory few (inl h) = inl h.1
  job_memory few (inr h) = elim (work_memory job h.letters h.relations before after
      (gb_posed job h.letters h.relations few h.alphabet h.setting) job.command h.holds) [
        | inl none ↦ inl none
        | inr some ↦ inr (given_so job unread.left rest.left _ _ h some)
      ]

module _ (words : List (List ℕ)) (unread rest : SourceState) (before after : SinkState) where
  abbrev End : Status → Type 0
  End = IsEnd words unread rest before after

  abbrev JobEnds : Job → Status → Type 0
  JobEnds job = IsJobEnd job unread rest before after

  -- but for a usage fault, a run ends as its job does
  pub job_of_end : (status : Status) → End status → (ReadsNothing status → ⊥) → OfJob words (λ job. JobEnds job status)
  job_of_end (Usage fault) end some = absurd (some tt)
  job_of_end status end some = end

  module _ (status : Status) (end : End status) where
    -- where a run ends by itself, the text of an outcome of its job was gained
    pub end_own : IsOwn status → OfWork words unread.left rest.left (λ job letters relations. HasGained before after (IsOutcome job letters relations status))
    end_own own = let e = job_of_end status end (λ none. not_both status none own) in
        (e.0, e.1, job_own e.0 unread rest before after status e.2 own)

    -- where it ends at its input, its command reads the source and the input has this end
    pub end_input : IsOfInput status → OfJob words (λ job. ReadsSource job.command × IsInputEnd job.modulus unread rest status)
    end_input of = let e = job_of_end status end (λ none. not_both_input status none of) in
        (e.0, e.1, job_input e.0 unread rest before after status e.2 of)

    -- where it ends with a write fault, the count of faults rose
    pub end_write : status ≡ WriteFault → Rose before.faults after.faults
    end_write is = let e = subst End is end in job_write e.0 unread rest before after e.2

    -- and a proper prefix of the text of an outcome was gained
    pub end_part : status ≡ WriteFault → OfWork words unread.left rest.left (λ job letters relations. HasWrittenPart job letters relations before after)
    end_part is = let e = subst End is end in (
      e.0,
      e.1,
      job_part e.0 unread rest before after
          (bound_range words e.0 e.1).1 e.2,
    )

    -- where memory is wanting, nothing was gained or some prefix of such a text
    pub end_memory : status ≡ NoMemory →
        Appends before.held after.held [] ⊎ OfWork words unread.left rest.left (λ job letters relations. HasWrittenSome job letters relations before after)
    end_memory is =
        let e = subst End is end in
        elim (job_memory e.0 unread rest before after (bound_range words e.0 e.1).1 e.2) [
          | inl none ↦ inl none
          | inr some ↦ inr (e.0, e.1, some)
        ]

  module _ (one : HasOneAnswer words) where
    fault_and_job : (fault : UsageFault) (Holds : Job → Type 0) → IsUsageFault words fault → OfJob words Holds → ⊥
    fault_and_job fault Holds h e = no_fault words one e.0 fault e.1 h

    -- with a job there is no usage fault, and so on
    usage_only : (fault : UsageFault) (status : Status) → IsUsageFault words fault → End status → status ≡ Usage fault
    usage_only fault status h end = elim (usage_or_job status) [
      | inl own ↦ own.1 ∙ ap Usage (one_fault words one own.0 fault (subst End own.1 end) h)
      | inr some ↦ absurd (fault_and_job fault _ h (job_of_end status end some))
    ]

    -- a run ends with a usage fault exactly where its words have this fault
    pub usage_exactly : (fault : UsageFault) (status : Status) → End status → (status ≡ Usage fault) ↔ IsUsageFault words fault
    usage_exactly fault status end = (λ is. subst End is end, λ h. usage_only fault status h end)
