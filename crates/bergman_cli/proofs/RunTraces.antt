-- The trace of a run is that of the task of its job, or none.
use Rattle.std.proofs.Common.{◌≡◌, ◌≢◌, ◌+◌, ℕ, Bool, true, false, List, [], ◌∷◌, refl, sym, ap, inr, subst}
use Rattle.std.specs.declared.option.Option.{Option}
use Rattle.words.specs.Names.{IsAlphabet, Letters}
use Rattle.free_poly.specs.declared.term.Term.{Term}
use Rattle.ideal_laws.specs.Ideal.{ideal_of, ideal_over}
use Rattle.ideal_laws.specs.declared.account.Account.{Account}
use Rattle.ideal_laws.specs.declared.limits.LimitKind.{LimitKind}
use Rattle.ideal_laws.specs.declared.presentation.Presentation.{Presentation}
use Rattle.ideal_laws.specs.Kept.{IsBelow}
use Rattle.ideal_laws.specs.Laws.{IsSetting}
use Rattle.ideal_laws.specs.Limits.{standard_limits}
use Rattle.command_words.specs.declared.job.Command.{Command}
use Rattle.command_words.specs.declared.job.Command.TheVariants as commands
use Rattle.command_words.specs.declared.job.Job.{Job}
use Rattle.command_words.specs.JobOf.{IsJob}
use Rattle.job_steps.specs.declared.print.Asked.{Asked}
use Rattle.job_steps.specs.declared.print.PrintFault.{PrintFault}
use Rattle.job_steps.specs.declared.print.PrintFault.TheVariants as stops
use Rattle.job_steps.specs.declared.status.Status.{Status}
use Rattle.job_steps.specs.declared.status.Status.TheVariants.{Done, Limit, WriteFault, NoMemory}
use Rattle.job_steps.specs.Gains.{IsUndone}
use Rattle.job_steps.specs.Printing.{task_of}
use Rattle.job_steps.specs.Progress.{Task, ideal_of_task}
use Rattle.job_steps.specs.States.{SinkState, TellerState}
use Rattle.bergman_cli.specs.Engines.{AreAmong, IsEngineOf, accounts_of, limits_of, traces_of}
use Rattle.bergman_cli.specs.Gb.{gb_task, shows_basis, shows_series}
use Rattle.bergman_cli.specs.Outcomes.{IsWorkTrace, IsWorkTraceOf}
use Rattle.bergman_cli.specs.Run.{IsGivenReading, IsRunTrace, OfWork}
use Rattle.job_steps.specs.Traces.{Accounts, AreAccounts, IsAccountOf, IsTaskTrace, IsTrace, IsTracePart, OfTrace, Tells}
use Rattle.job_steps.proofs.Traced.{tells_none}

-- what a task that ended so has for its trace
module _ (May Own : Accounts) (t : Task) (st : IsSetting (ideal_of_task t)) where
  module _ (own : AreAmong May Own) where
    own_account : (d : ℕ) (x : Account) → IsAccountOf May t d x → IsAccountOf Own t d x
    own_account d x first =
        let setting = subst (λ (l : Letters). IsSetting (ideal_over t.modulus l.weights first.given.relations)) (sym first.letters)
        (subst (λ (rs : List (List Term)). IsSetting (ideal_over t.modulus t.letters.weights rs)) (sym first.relations) st) in
        let below = subst (λ (l : Letters). IsBelow (ideal_over t.modulus l.weights first.given.relations) d first.below) (sym first.letters)
        (subst (λ (rs : List (List Term)). IsBelow (ideal_over t.modulus t.letters.weights rs) d first.below) (sym first.relations) first.is_below) in
        record {
          given = first.given;
          letters = first.letters;
          relations = first.relations;
          below = first.below;
          is_below = first.is_below;
          may = own t.modulus first.given first.below d x setting below first.may;
        }

    own_accounts : (d : ℕ) (accounts : List Account) → AreAccounts May t d accounts → AreAccounts Own t d accounts
    own_accounts d [] all = tt
    own_accounts d (x ∷ xs) all =
        (own_account d x all.0, own_accounts (d + 1) xs all.1)

    own_trace : (e : ℕ) (text : List ℕ) → IsTrace May t e text → IsTrace Own t e text
    own_trace e text h = record { accounts = h.accounts; count = h.count; each = own_accounts 1 h.accounts h.each; printed = h.printed }

  module _ (traces : Bool) (own : traces ≡ true → AreAmong May Own) where
    own_part : (e : ℕ) (text : List ℕ) → IsTracePart May t traces e text → IsTracePart Own t traces e text
    own_part e text h = by_traces traces own h
      where
        by_traces : (b : Bool) → (b ≡ true → AreAmong May Own) → IsTracePart May t b e text → IsTracePart Own t b e text
        by_traces true each k = own_trace (each refl) e text k
        by_traces false each k = k

    module _ (before after : SinkState) (Told : List ℕ → Type 0) where
      done_traced : OfTrace May t traces t.bound Told → (trace : List ℕ) × IsTaskTrace Own traces t before after Done trace × Told trace
      done_traced h = (h.0, own_part t.bound h.0 h.1, h.2)

      limit_traced : (kind : LimitKind) (d value : ℕ) → IsUndone t before after (λ e. OfTrace May t traces e Told)
          (stops.Limit kind d value) → (trace : List ℕ) × IsTaskTrace Own traces t before after (Limit kind d value) trace × Told trace
      limit_traced kind d value u = let h = u.3 in (h.0, (u.0, u.2.is_reach, u.1, own_part _ h.0 h.1), h.2)

      write_traced : IsUndone t before after (λ e. OfTrace May t traces e Told) stops.WriteFault →
          (trace : List ℕ) × IsTaskTrace Own traces t before after WriteFault trace × Told trace
      write_traced u = let h = u.1.1 in (h.0, (u.1.0, own_part u.1.0.last h.0 h.1), h.2)

      memory_traced : IsUndone t before after (λ e. OfTrace May t traces e Told) stops.NoMemory →
          (trace : List ℕ) × IsTaskTrace Own traces t before after NoMemory trace × Told trace
      memory_traced u = let h = u.1 in (h.0, (u.0, own_part u.0.last h.0 h.1), h.2)

-- the task that is printed is that of the job
task_is : (p : ℕ) (given : Presentation) (limits : List (LimitKind × ℕ)) (asked : Asked) (job : Job) → p ≡ job.modulus → limits ≡ limits_of job.engine
    → asked ≡ record { bound = job.bound; basis = shows_basis job.show; series = shows_series job.show; trace = traces_of job } →
    task_of p given limits asked ≡ gb_task job given.alphabet given.relations
task_is p given limits asked job field same is = λ i. record {
  modulus = field i;
  letters = given.alphabet;
  relations = given.relations;
  limits = same i;
  normal_words = standard_limits.normal_words;
  bound = (is i).bound;
  shows_basis = (is i).basis;
  shows_series = (is i).series;
}

-- what is told of the job's task
module _ (p : ℕ) (given : Presentation) (limits : List (LimitKind × ℕ)) (asked : Asked) (job : Job) (field : p ≡ job.modulus)
    (May : Accounts) (engine : IsEngineOf job limits May)
    (is : asked ≡ record { bound = job.bound; basis = shows_basis job.show; series = shows_series job.show; trace = traces_of job })
    (st : IsSetting (ideal_of p given)) where
  abbrev task : Task
  task = gb_task job given.alphabet given.relations

  own_setting : IsSetting (ideal_of job.modulus given)
  own_setting = subst (λ (m : ℕ). IsSetting (ideal_of m given)) field st

  moved : (P : Task → Bool → Type 0) → P (task_of p given limits asked) asked.trace → P task (traces_of job)
  moved P h = subst (λ (t : Task). P t (traces_of job)) (task_is p given limits asked job field engine.same_limits is)
      (subst (λ (b : Bool). P (task_of p given limits asked) b) (ap (λ (a : Asked). a.trace) is) h)

  module _ (before after : SinkState) (Told : List ℕ → Type 0) where
    abbrev Traced : Status → Type 0
    Traced status = (trace : List ℕ) × IsTaskTrace (accounts_of job) (traces_of job) task before after status trace × Told trace

    abbrev Undone : Task → Bool → PrintFault → Type 0
    Undone t traces fault = IsUndone t before after (λ e. OfTrace May t traces e Told) fault

    -- where the task is done, the trace that was told is its own
    pub told_done : OfTrace May (task_of p given limits asked) asked.trace asked.bound Told → Traced Done
    told_done h = done_traced May (accounts_of job) task own_setting (traces_of job) engine.accounts before after Told
        (moved (λ t b. OfTrace May t b t.bound Told) h)

    -- a fault by its name
    undone_by : (fault named : PrintFault) → fault ≡ named → Undone (task_of p given limits asked) asked.trace fault → Undone task (traces_of job) named
    undone_by fault named same h = moved (λ t b. Undone t b named) (subst (λ (f : PrintFault). Undone (task_of p given limits asked) asked.trace f) same h)

    -- where a limit stops it
    pub told_limit : (kind : LimitKind) (d value : ℕ) (fault : PrintFault) → fault ≡ stops.Limit kind d value →
        Undone (task_of p given limits asked) asked.trace fault → Traced (Limit kind d value)
    told_limit kind d value fault same h = limit_traced May (accounts_of job) task own_setting
        (traces_of job) engine.accounts before after Told kind d value (undone_by fault (stops.Limit kind d value) same h)

    -- where a write failed
    pub told_write : (fault : PrintFault) → fault ≡ stops.WriteFault → Undone (task_of p given limits asked) asked.trace fault → Traced WriteFault
    told_write fault same h = write_traced May (accounts_of job) task own_setting (traces_of job) engine.accounts before after
        Told (undone_by fault stops.WriteFault same h)

    -- where memory was wanting
    pub told_memory : (fault : PrintFault) → fault ≡ stops.NoMemory → Undone (task_of p given limits asked) asked.trace fault → Traced NoMemory
    told_memory fault same h = memory_traced May (accounts_of job) task own_setting (traces_of job) engine.accounts before after Told
        (undone_by fault stops.NoMemory same h)

-- a status that can have a trace
abbrev IsTraced : Status → Type 0
IsTraced Done = Unit {0}
IsTraced (Limit kind d value) = Unit {0}
IsTraced WriteFault = Unit {0}
IsTraced NoMemory = Unit {0}
IsTraced status = ⊥

module _ (job : Job) (letters : Letters) (relations : List (List Term)) (before after : SinkState) (trace : List ℕ) where
  gb_untraced : (status : Status) → (IsTraced status → ⊥) → IsWorkTraceOf commands.Gb job letters relations before after status trace → trace ≡ []
  gb_untraced Done none h = absurd (none tt)
  gb_untraced (Limit kind d value) none h = absurd (none tt)
  gb_untraced WriteFault none h = absurd (none tt)
  gb_untraced NoMemory none h = absurd (none tt)
  gb_untraced status none h = absurd h

  -- another status has none
  untraced : (command : Command) (status : Status) → (IsTraced status → ⊥) →
      IsWorkTraceOf command job letters relations before after status trace → trace ≡ []
  untraced commands.Gb status none h = gb_untraced status none h
  untraced command status none h = h

  -- a command other than gb has none
  pub no_trace : (command : Command) (status : Status) → command ≢ commands.Gb → trace ≡ [] →
      IsWorkTraceOf command job letters relations before after status trace
  no_trace commands.Gb status other h = absurd (other refl)
  no_trace command status other h = h

-- nothing is told of its work
pub untold : (job : Job) (letters : Letters) (relations : List (List Term)) (before after : SinkState) (status : Status) → job.command ≢ commands.Gb →
    (teller : TellerState) → (trace : List ℕ) × IsWorkTrace job letters relations before after status trace × Tells teller teller trace
untold job letters relations before after status other teller =
    ([], no_trace job letters relations before after [] job.command status other refl, tells_none teller)

module _ (words : List (List ℕ)) (left now : Option (List ℕ)) (before after : SinkState) where
  abbrev Traces : Status → List ℕ → Type 0
  Traces status trace = IsRunTrace words left now before after status trace

  -- the trace of the work on what was given
  module _ (job : Job) (is : IsJob words job) (letters : Letters) (relations : List (List Term))
      (reads : IsGivenReading job left now letters relations) (alphabet : IsAlphabet letters)
      (setting : IsSetting (ideal_over job.modulus letters.weights relations)) (trace : List ℕ) where
    given_trace : (status : Status) → IsWorkTrace job letters relations before after status trace →
        OfWork words left now (λ own l rs. IsWorkTrace own l rs before after status trace)
    given_trace status h = (
      job,
      is,
      record {
        text = reads.0;
        is_given = reads.1;
        letters = letters;
        relations = relations;
        reads = reads.2;
        alphabet = alphabet;
        setting = setting;
        holds = h;
      },
    )

    none_of : (status : Status) → (IsTraced status → ⊥) → IsWorkTrace job letters relations before after status trace → trace ≡ []
    none_of status none h = untraced job letters relations before after trace job.command status none h

    -- the trace of the work is that of the run
    pub work_trace : (status : Status) → IsWorkTrace job letters relations before after status trace → Traces status trace
    work_trace Done h = given_trace Done h
    work_trace (Limit kind d value) h = given_trace (Limit kind d value) h
    work_trace WriteFault h = given_trace WriteFault h
    work_trace NoMemory h = inr (given_trace NoMemory h)
    work_trace status h = none_of status (λ none. none) h
