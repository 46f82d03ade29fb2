-- A status comes where its cause stands, or a mishap in its place.
use Rattle.std.proofs.Common.{◌≡◌, ◌≢◌, ◌⊎◌, ◌<◌, ◌≤◌, ℕ, List, length, sym, ap, inl, inr, arith, subst}
use Rattle.std.specs.declared.option.Option.TheVariants.{Some}
use Rattle.words.specs.Names.{Letters}
use Rattle.free_poly.specs.declared.term.Term.{Term}
use Rattle.ideal_laws.specs.Ideal.{ideal_over}
use Rattle.ideal_laws.specs.Laws.{IsSetting}
use Rattle.relation_reader.specs.declared.fault.InputFault.{InputFault}
use Rattle.relation_reader.specs.Meaning.{FirstFault, HasOneReading, Reads}
use Rattle.command_words.specs.declared.job.Command.{Command}
use Rattle.command_words.specs.declared.job.Job.{Job}
use Rattle.command_words.specs.JobOf.{HasOneAnswer, IsJob}
use Rattle.command_words.proofs.Digits.{modulus_some}
use Rattle.job_steps.specs.declared.status.InputProblem.TheVariants.{TooLong, Text}
use Rattle.job_steps.specs.declared.status.Status.{Status}
use Rattle.job_steps.specs.declared.status.Status.TheVariants.{Usage, Input, ReadFault, WriteFault, NoMemory}
use Rattle.job_steps.specs.States.{SinkState, SourceState}
use Rattle.job_steps.specs.Status.{ReadsNothing}
use Rattle.job_steps.specs.Statuses.{IsOwn}
use Rattle.bergman_cli.specs.Jobs.{OfJob}
use Rattle.bergman_cli.specs.Outcomes.{IsDue, IsWorkEnd}
use Rattle.bergman_cli.specs.Run.{Completes, IsCaused, IsDueTo, IsEnd, IsJobEnd, IsMishap, IsUngivenTo, ReadsSource}
use Rattle.bergman_cli.proofs.Causes.{job_of_end, reads_nothing_not}
use Rattle.bergman_cli.proofs.Given.{fault_mishap, given_input, given_is, input_is, long_mishap, make_or_reads, no_text_fault, one_reading}
use Rattle.bergman_cli.proofs.Given.{read_mishap, told_input, ungiven_input}
use Rattle.bergman_cli.proofs.Jobs.{listed, no_fault, one_job}
use Rattle.bergman_cli.proofs.Works.{due_is_one, failed_writes, never, outcome_due, work_gained, work_write}

module _ (job : Job) (law : HasOneReading) (some : 0 < job.modulus) (unread rest : SourceState) (before after : SinkState) where
  abbrev Ends : Status → Type 0
  Ends = IsJobEnd job unread rest before after

  abbrev Comes : Status → Status → Type 0
  Comes own status = (status ≡ own) ⊎ IsMishap job.command own unread rest before after status

  -- the text of a job that reads its source is too long
  too_long : (status : Status) → Ends status → ReadsSource job.command → (text : List ℕ) → unread.left ≡ Some text → 1048576 < length text →
      Comes (Input TooLong) status
  too_long status (inl h) reads text told long = long_mishap job.modulus unread rest before after text told job.command reads long status
      (ungiven_input job.modulus unread rest status job.command reads h.0)
  too_long status (inr h) reads text told long =
      let input = given_input job unread.left rest.left h.text job.command reads h.is_given in
      absurd (omega (arith, long, input.short, ap length (input_is unread.left rest.left text h.text told input)))

  -- it has a first fault
  faulty : (status : Status) → Ends status → ReadsSource job.command → (text : List ℕ) → unread.left ≡ Some text → length text ≤ 1048576 →
      (fault : InputFault) → FirstFault text job.modulus fault → Comes (Input (Text fault)) status
  faulty status (inl h) reads text told short fault first =
      fault_mishap job.modulus unread rest before after text told job.command reads law some short fault first status
      (ungiven_input job.modulus unread rest status job.command reads h.0)
  faulty status (inr h) reads text told short fault first =
      let input = given_input job unread.left rest.left h.text job.command reads h.is_given in
      let same = input_is unread.left rest.left text h.text told input in
      absurd (no_text_fault law text job.modulus some h.letters h.relations fault
      (subst (λ (t : List ℕ). Reads t job.modulus h.letters h.relations) (sym same) h.reads) first)

  -- it has a reading, and this status is due on it
  module _ (own : Status) (due : IsDueTo job unread.left own) where
    ungiven_mishap : (status : Status) → IsUngivenTo job.command job.modulus unread rest status → IsMishap job.command own unread rest before after status
    ungiven_mishap status h = elim (make_or_reads job.command) [
      | inl make ↦ subst (IsMishap job.command own unread rest before after) (sym (subst (λ
          (c : Command). IsUngivenTo c job.modulus unread rest status) make h)) tt
      | inr reads ↦
          let told = told_input job unread.left rest.left due.text job.command reads due.is_told in
          read_mishap job.modulus unread rest before after due.text told.0 job.command reads told.1
          (λ fault first. no_text_fault law due.text job.modulus some due.letters due.relations fault due.reads first) own status
          (ungiven_input job.modulus unread rest status job.command reads h)
    ]

    same_reading : (text : List ℕ) (letters : Letters) (relations : List (List Term)) → due.text ≡ text →
        Reads text job.modulus letters relations → (due.letters ≡ letters) × (due.relations ≡ relations)
    same_reading text letters relations same reads =
        one_reading law due.text job.modulus some due.letters letters due.relations relations due.reads
        (subst (λ (t : List ℕ). Reads t job.modulus letters relations) (sym same) reads)

    due_of : (letters : Letters) (relations : List (List Term)) → (due.letters ≡ letters) × (due.relations ≡ relations) → IsDue job letters relations own
    due_of letters relations same = subst (λ (ls : Letters). IsDue job ls relations own) same.0
        (subst (λ (rs : List (List Term)). IsDue job due.letters rs own) same.1 due.due)

    worked : (status : Status) (letters : Letters) (relations : List (List Term)) → IsSetting (ideal_over job.modulus letters.weights relations) →
        IsDue job letters relations own → IsWorkEnd job letters relations before after status → Comes own status
    worked status letters relations st is end = by_status status end
      where
        own_comes : (s : Status) → IsOwn s → IsWorkEnd job letters relations before after s → Comes own s
        own_comes s is_own e =
            let gained = work_gained job letters relations before after job.command s e is_own in
            inl (due_is_one job letters relations job.command s own st (outcome_due job letters relations job.command s gained.0 gained.1) is)

        not_comes : (s : Status) → (IsOwn s → ⊥) → s ≢ WriteFault → s ≢ NoMemory → IsWorkEnd job letters relations before after s → Comes own s
        not_comes s none write memory e = absurd (never job letters relations before after job.command s none write memory e)

        by_status : (s : Status) → IsWorkEnd job letters relations before after s → Comes own s
        by_status (Usage fault) e = not_comes (Usage fault) (λ none. none) (λ same. cc) (λ same. cc) e
        by_status (Input TooLong) e = not_comes (Input TooLong) (λ none. none) (λ same. cc) (λ same. cc) e
        by_status (Input (Text fault)) e = not_comes (Input (Text fault)) (λ none. none) (λ same. cc) (λ same. cc) e
        by_status ReadFault e = not_comes ReadFault (λ none. none) (λ same. cc) (λ same. cc) e
        by_status WriteFault e = inr (
          failed_writes job letters relations before after job.command own st is e,
          work_write job letters relations before after job.command e,
        )
        by_status NoMemory e = inr tt
        by_status s e = own_comes s tt e

    due_comes : (status : Status) → Ends status → Comes own status
    due_comes status (inl h) = inr (ungiven_mishap status h.0)
    due_comes status (inr h) =
        let same = same_reading h.text h.letters h.relations (given_is job.command job unread.left rest.left due.text h.text due.is_told h.is_given) h.reads in
        worked status h.letters h.relations h.setting (due_of h.letters h.relations same) h.holds

  -- each cause
  pub caused_comes : (own status : Status) → Ends status → IsCaused job unread.left own → Comes own status
  caused_comes (Input TooLong) status end c = too_long status end c.0 c.1.0 c.1.1 c.1.2
  caused_comes (Input (Text fault)) status end c = faulty status end c.0 c.1.0 c.1.1 c.1.2 fault c.1.3
  caused_comes own status end c = due_comes own c status end

module _ (words : List (List ℕ)) (unread rest : SourceState) (before after : SinkState)
    (one : HasOneAnswer words) (job : Job) (is : IsJob words job) where
  abbrev End : Status → Type 0
  End = IsEnd words unread rest before after

  abbrev JobEnds : Status → Type 0
  JobEnds = IsJobEnd job unread rest before after

  same_job : (status : Status) → OfJob words (λ own. IsJobEnd own unread rest before after status) → JobEnds status
  same_job status h = subst (λ (j : Job). IsJobEnd j unread rest before after status) (one_job words one h.0 job h.1 is) h.2

  -- the run of a job ends as the job does
  ends_of : (status : Status) → End status → JobEnds status
  ends_of status end =
      let some : ReadsNothing status → ⊥ = λ none. reads_nothing_not End (λ fault h. no_fault words one job fault is h) status none end in
      same_job status (job_of_end words unread rest before after status end some)

  -- where a status of the job has its cause, the run ends with it or with a mishap
  pub job_completes : HasOneReading → (own status : Status) → End status → IsCaused job unread.left own →
      (status ≡ own) ⊎ IsMishap job.command own unread rest before after status
  job_completes law own status end cause = caused_comes job law (modulus_some job.modulus (listed words job is)) unread rest before after own status
      (ends_of status end) cause

-- so each run completes
pub completes : (words : List (List ℕ)) (unread rest : SourceState) (before after : SinkState) → HasOneAnswer words → HasOneReading
    → (status : Status) → IsEnd words unread rest before after status → Completes words unread rest before after status
completes words unread rest before after one law status end job own is cause =
    job_completes words unread rest before after one job is law own status end cause
