-- What is told beside the output: the trace of each degree that was computed.
use Rattle.std.specs.Prelude.{ℕ, ◌≡◌, ◌+◌, ◌<◌, ◌≤◌, Bool, true, false, List, [], ◌∷◌, ◌++◌, All, length}
use Rattle.std.specs.Io.KnownBytes.{Appends}
use Rattle.words.specs.Words.{IsOver}
use Rattle.free_poly.specs.declared.term.Term.{Term}
use Rattle.bg_io.specs.Ends.{Rose}
use Rattle.ideal_laws.specs.Ideal.{ideal_of}
use Rattle.ideal_laws.specs.declared.account.Account.{Account}
use Rattle.ideal_laws.specs.declared.presentation.Presentation.{Presentation}
use Rattle.ideal_laws.specs.Basis.{IsReducedBasis}
use Rattle.ideal_laws.specs.Engine.{Elements}
use Rattle.ideal_laws.specs.Kept.{IsBelow}
use Rattle.ideal_laws.specs.Laws.{IsSetting}
use Rattle.poly_writer.specs.Texts.{trace_text}
use Rattle.job_steps.specs.Gains.{GainsSome, HasPrintedPart, HasPrintedSome}
use Rattle.job_steps.specs.Progress.{IsPart, IsReach, IsStoppedBy, Reach, Task, ideal_of_task, last_degree}
use Rattle.job_steps.specs.States.{SinkState, TellerState}
use Rattle.job_steps.specs.declared.status.Status.{Status}
use Rattle.job_steps.specs.declared.status.Status.TheVariants.{Done, Limit, WriteFault, NoMemory}

-- the accounts that an engine may give, for a modulus, a presentation, the basis below a degree, and the degree
abbrev pub Accounts : Type 1
Accounts = ℕ → Presentation → Elements → ℕ → Account → Type 0

-- its columns are words over so many letters, and its calls are on these columns
pub record IsPrintable (letters : ℕ) (account : Account) : Type 0 where
  pub words : All (IsOver letters) account.columns
  pub calls : All (λ call. call.column < length account.columns) account.calls

-- so is each account of a degree whose reduced basis is found
abbrev pub ArePrintable : Accounts → ℕ → Presentation → Type 0
ArePrintable May p given =
    (below : Elements) (d : ℕ) (elements : List (List Term)) (account : Account) → d ≤ 64 →
    IsSetting (ideal_of p given) → IsBelow (ideal_of p given) d below
    → IsReducedBasis (ideal_of p given) d elements → May p given below d account →
    IsPrintable (length given.alphabet.weights) account

-- an account that the engine may give of degree d of a task
pub record IsAccountOf (May : Accounts) (t : Task) (d : ℕ) (account : Account) : Type 0 where
  pub given : Presentation
  pub letters : given.alphabet ≡ t.letters
  pub relations : given.relations ≡ t.relations
  pub below : Elements
  pub is_below : IsBelow (ideal_of_task t) d below
  pub may : May t.modulus given below d account

-- an account of each degree from d on
abbrev pub AreAccounts : Accounts → Task → ℕ → List Account → Type 0
AreAccounts May t d [] = Unit {0}
AreAccounts May t d (account ∷ rest) = IsAccountOf May t d account × AreAccounts May t (d + 1) rest

-- the trace texts of degrees d, d + 1, ..
abbrev pub trace_texts : List (List ℕ) → ℕ → List Account → List ℕ
trace_texts names d [] = []
trace_texts names d (account ∷ rest) = trace_text names d account ++ trace_texts names (d + 1) rest

-- the trace of degrees 1 to e
pub record IsTrace (May : Accounts) (t : Task) (e : ℕ) (text : List ℕ) : Type 0 where
  pub accounts : List Account
  pub count : length accounts ≡ e
  pub each : AreAccounts May t 1 accounts
  pub printed : text ≡ trace_texts t.letters.names 1 accounts

-- the same, where there is a trace
abbrev pub IsTracePart : Accounts → Task → Bool → ℕ → List ℕ → Type 0
IsTracePart May t traces e text = IsPart traces (IsTrace May t e) text

-- such a trace, of which something holds
abbrev pub OfTrace : Accounts → Task → Bool → ℕ → (List ℕ → Type 0) → Type 0
OfTrace May t traces e Holds = (trace : List ℕ) × IsTracePart May t traces e trace × Holds trace

-- the trace of one degree, where there is one
abbrev pub trace_of : Bool → List (List ℕ) → ℕ → Account → List ℕ
trace_of true names d account = trace_text names d account
trace_of false names d account = []

-- the trace of the next degree, of which something holds
abbrev pub OfNextTrace : Accounts → ℕ → Presentation → Elements → Bool → (List ℕ → Type 0) → Type 0
OfNextTrace May p given below traces Holds = (account : Account) × May p given below (below.done + 1) account
    × Holds (trace_of traces given.alphabet.names (below.done + 1) account)

-- a text is told after others: the whole, or a prefix where a write fails; and nothing where one has failed before
pub record Tells (before after : TellerState) (text : List ℕ) : Type 0 where
  pub later : before.err.faults ≤ after.err.faults
  pub silent : before.failed ≡ true → (after.failed ≡ true) × Appends before.err.held after.err.held []
  pub whole : before.failed ≡ false → after.failed ≡ false → Appends before.err.held after.err.held text
  pub part : before.failed ≡ false → after.failed ≡ true →
      Rose before.err.faults after.err.faults × GainsSome before.err after.err text

-- the whole was told, or the count of faults rose and a prefix was told
pub record IsTold (before after : SinkState) (text : List ℕ) : Type 0 where
  pub whole : (Rose before.faults after.faults → ⊥) → Appends before.held after.held text
  pub some : GainsSome before after text

-- the trace of a task that ended so: that of the degrees that were computed
abbrev pub IsTaskTrace : Accounts → Bool → Task → SinkState → SinkState → Status → List ℕ → Type 0
IsTaskTrace May traces t before after Done trace = IsTracePart May t traces t.bound trace
IsTaskTrace May traces t before after (Limit kind d value) trace =
    (reach : Reach) × IsReach t reach × IsStoppedBy reach kind d value
    × IsTracePart May t traces (last_degree t reach) trace
IsTaskTrace May traces t before after WriteFault trace = (part : HasPrintedPart t before after)
    × IsTracePart May t traces part.last trace
IsTaskTrace May traces t before after NoMemory trace = (part : HasPrintedSome t before after)
    × IsTracePart May t traces part.last trace
IsTaskTrace May traces t before after status trace = ⊥
