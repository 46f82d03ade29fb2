-- The engines: the limits that they ask, and the accounts that they may tell.
use Rattle.std.specs.Prelude.{ℕ, ◌≡◌, Bool, true, false, List, [], ◌∷◌}
use Rattle.free_poly.specs.declared.term.Term.{Term}
use Rattle.ideal_laws.specs.Ideal.{ideal_of}
use Rattle.ideal_laws.specs.declared.account.Account.{Account}
use Rattle.ideal_laws.specs.declared.limits.LimitKind.{LimitKind}
use Rattle.ideal_laws.specs.declared.limits.LimitKind.TheVariants.{PlainWords}
use Rattle.ideal_laws.specs.declared.presentation.Presentation.{Presentation}
use Rattle.ideal_laws.specs.Engine.{Elements}
use Rattle.ideal_laws.specs.Limits.{standard_limits}
use Rattle.ideal_laws.specs.Basis.{IsReducedBasis}
use Rattle.ideal_laws.specs.Kept.{IsBelow}
use Rattle.ideal_laws.specs.Laws.{IsSetting}
use Rattle.degree_loop.specs.Accounts.{IsCoreAccount, IsRunAccount, crew_of}
use Rattle.degree_loop.specs.ClaimHistory.{IsClaimHistory}
use Rattle.degree_loop.specs.Limits.{engine_limits}
use Rattle.degree_loop.specs.Matrix.{TellsMatrix}
use Rattle.command_words.specs.declared.job.EngineKind.{EngineKind}
use Rattle.command_words.specs.declared.job.EngineKind.TheVariants.{Race, Core, Seq, Plain}
use Rattle.command_words.specs.declared.job.Job.{Job}
use Rattle.job_steps.specs.Traces.{Accounts, ArePrintable}

-- the limits that an engine asks, in their order
abbrev pub limits_of : EngineKind → List (LimitKind × ℕ)
limits_of Race = engine_limits standard_limits
limits_of Core = engine_limits standard_limits
limits_of Seq = engine_limits standard_limits
limits_of Plain = (PlainWords, standard_limits.plain_words) ∷ []

-- whether an engine tells accounts, where it is asked for
abbrev pub traces_in : EngineKind → Bool → Bool
traces_in Race asked = asked
traces_in Core asked = asked
traces_in Seq asked = false
traces_in Plain asked = false

abbrev pub traces_of : Job → Bool
traces_of job = traces_in job.engine job.trace

-- the calls of an account are a history of claims on the matrix of the degree, and those that won name the leading
-- words of its reduced basis
abbrev pub TellsHistory : ℕ → Accounts
TellsHistory workers p given below d account =
    (elements : List (List Term)) → IsReducedBasis (ideal_of p given) d elements
    → TellsMatrix (ideal_of p given) below.elements d account
    × IsClaimHistory (crew_of workers account.rows) elements account

-- the accounts that an engine may tell
abbrev pub accounts_in : EngineKind → ℕ → ℕ → Accounts
accounts_in Race workers schedule p given below d account =
    IsRunAccount workers (ideal_of p given) below.elements d account
    × TellsHistory workers p given below d account
accounts_in Core workers schedule p given below d account =
    IsCoreAccount workers schedule (ideal_of p given) below.elements d account
    × TellsHistory workers p given below d account
accounts_in Seq workers schedule p given below d account = ⊥
accounts_in Plain workers schedule p given below d account = ⊥

abbrev pub accounts_of : Job → Accounts
accounts_of job = accounts_in job.engine job.workers job.schedule

-- over a basis below a degree the one accounts are among the others
abbrev pub AreAmong : Accounts → Accounts → Type 0
AreAmong May Own =
    (p : ℕ) (given : Presentation) (below : Elements) (d : ℕ) (account : Account) →
    IsSetting (ideal_of p given) →
    IsBelow (ideal_of p given) d below
    → May p given below d account → Own p given below d account

-- limits and accounts of the engine that a job names
pub record IsEngineOf (job : Job) (limits : List (LimitKind × ℕ)) (May : Accounts) : Type 0 where
  pub same_limits : limits ≡ limits_of job.engine
  pub accounts : traces_of job ≡ true → AreAmong May (accounts_of job)
  pub printable : traces_of job ≡ true → (p : ℕ) (given : Presentation) → ArePrintable May p given
