-- What the command chains asks of relations, and the text that it prints.
use Rattle.std.specs.Prelude.{ℕ, ◌≡◌, ◌+◌, ◌≤◌, false, List, [], length}
use Rattle.words.specs.Names.{Letters}
use Rattle.free_poly.specs.declared.term.Term.{Term}
use Rattle.ideal_laws.specs.Ideal.{IsMinimal, ideal_over}
use Rattle.anick_chains.specs.declared.chain.Chain.{Chain}
use Rattle.anick_chains.specs.Listed.{AreListed}
use Rattle.anick_chains.specs.Listing.{IsFirstMany, IsNumber}
use Rattle.anick_chains.specs.Texts.{chain_text}
use Rattle.command_words.specs.declared.job.Job.{Job}
use Rattle.job_steps.specs.declared.status.Status.{Status}
use Rattle.job_steps.specs.declared.status.Status.TheVariants.{Done, Chains}
use Rattle.job_steps.specs.Progress.{Task}
use Rattle.job_steps.specs.Statuses.{IsTaskStatus}
use Rattle.bergman_cli.specs.Jobs.{job_task}

-- the basis up to the bound, of which nothing is shown
abbrev pub chains_task : Job → Letters → List (List Term) → Task
chains_task job letters relations = job_task job letters relations false false

-- so many chains are listed at most
abbrev pub most_chains : ℕ
most_chains = 1048576

-- up to the bound there are no more chains over the minimal words
pub record HasFewChains (job : Job) (letters : Letters) (relations : List (List Term)) : Type 0 where
  pub number : ℕ
  pub is_number : IsNumber (IsMinimal (ideal_over job.modulus letters.weights relations)) (length letters.weights)
      letters.weights job.bound number
  pub few : number ≤ most_chains

-- up to this degree there are more, and up to no lower one; the kept value is the limit plus 1
pub record HasManyChains (job : Job) (letters : Letters) (relations : List (List Term)) (d value : ℕ) : Type 0 where
  pub first : IsFirstMany (IsMinimal (ideal_over job.modulus letters.weights relations)) (length letters.weights)
      letters.weights job.bound most_chains d
  pub kept : value ≡ most_chains + 1

-- the basis is found, and the chains are few, or too many up to a degree; or a limit of the engine is passed
abbrev pub IsChainsStatus : Job → Letters → List (List Term) → Status → Type 0
IsChainsStatus job letters relations Done =
    IsTaskStatus (chains_task job letters relations) Done × HasFewChains job letters relations
IsChainsStatus job letters relations (Chains d value) =
    IsTaskStatus (chains_task job letters relations) Done × HasManyChains job letters relations d value
IsChainsStatus job letters relations status = IsTaskStatus (chains_task job letters relations) status

-- the chain text of no more chains, which are those over T up to the bound
pub record HasChainText (T : List ℕ → Type 0) (letters : Letters) (job : Job) (text : List ℕ) : Type 0 where
  pub chains : List Chain
  pub listed : AreListed T (length letters.weights) letters.weights job.bound chains
  pub few : length chains ≤ most_chains
  pub printed : text ≡ chain_text letters.names job.list chains

-- what is printed where the command ends so: the chain text, or nothing at a limit
abbrev pub IsChainsText : Job → Letters → List (List Term) → Status → List ℕ → Type 0
IsChainsText job letters relations Done text =
    HasChainText (IsMinimal (ideal_over job.modulus letters.weights relations)) letters job text
IsChainsText job letters relations status text = text ≡ []

-- an end of the command, with its text
abbrev pub IsChainsOutcome : Job → Letters → List (List Term) → Status → List ℕ → Type 0
IsChainsOutcome job letters relations status text =
    IsChainsStatus job letters relations status × IsChainsText job letters relations status text
