-- A task ends with one status, of its own.
use Rattle.std.proofs.Common.{◌≡◌, ◌≢◌, ℕ, List, [], ◌∷◌, ◌++◌, refl, sym, ◌∙◌, inl, inr, subst}
use Rattle.bg_io.specs.Ends.{IsCutShort}
use Rattle.ideal_laws.specs.Laws.{IsSetting}
use Rattle.job_steps.specs.declared.status.Status.{Status}
use Rattle.job_steps.specs.declared.status.Status.TheVariants.{Done, Usage, Input, Limit, ReadFault, WriteFault, NoMemory}
use Rattle.job_steps.specs.Progress.{Task, ideal_of_task}
use Rattle.job_steps.specs.States.{SinkState}
use Rattle.job_steps.specs.Status.{PrintsNothing}
use Rattle.job_steps.specs.Statuses.{HasGained, IsAnswered, IsAnsweredInParts, IsOwn, IsTaskEnd, IsTaskOutcome, IsTaskStatus, IsThis}
use Rattle.job_steps.proofs.Reaches.{one_stop, whole_is_not_stopped}

-- the statuses of a task are its own
pub task_status_own : (t : Task) (status : Status) → IsTaskStatus t status → IsOwn status
task_status_own t Done h = tt
task_status_own t (Limit kind d value) h = tt
task_status_own t status h = absurd h

-- with one of them something is printed
pub task_status_prints : (t : Task) (status : Status) → IsTaskStatus t status → PrintsNothing status → ⊥
task_status_prints t (Usage fault) h none = h
task_status_prints t (Input problem) h none = h
task_status_prints t ReadFault h none = h
task_status_prints t status h none = none

-- an outcome has the status that is due
pub task_outcome_status : (t : Task) (status : Status) (text : List ℕ) → IsTaskOutcome t status text → IsTaskStatus t status
task_outcome_status t Done text h = h.0
task_outcome_status t (Limit kind d value) text h = (h.0, h.1, h.2)
task_outcome_status t status text h = absurd h

-- what comes to its end is stopped by no limit, and what is stopped is stopped by one
module _ (t : Task) (st : IsSetting (ideal_of_task t)) where
  -- a task has one status
  pub one_task_status : (status other : Status) → IsTaskStatus t status → IsTaskStatus t other → status ≡ other
  one_task_status Done Done a b = refl
  one_task_status Done (Limit kind d value) a b = absurd (whole_is_not_stopped t st a b.0 kind d value b.1 b.2)
  one_task_status (Limit kind d value) Done a b = absurd (whole_is_not_stopped t st b a.0 kind d value a.1 a.2)
  one_task_status (Limit kind d value) (Limit k e v) a b = let same = one_stop t st a.0 b.0 kind k d e value v a.1 a.2 b.1 b.2 in
      λ i. Limit (same.0 i) (same.1 i) (same.2 i)
  one_task_status Done other a b = absurd b
  one_task_status (Limit kind d value) other a b = absurd b
  one_task_status status other a b = absurd a

module _ (t : Task) (before after : SinkState) where
  abbrev Ends : Status → Type 0
  Ends = IsTaskEnd t before after

  -- a task that ended by itself has gained the text of an outcome
  pub task_gained : (status : Status) → Ends status → IsOwn status → HasGained before after (IsTaskOutcome t status)
  task_gained Done h own = (h.text, (h.is_reach, h.is_text), h.appended)
  task_gained (Limit kind d value) h own = (h.2.text, (h.0, h.2.is_reach, h.1, h.2.is_text), h.2.appended)
  task_gained WriteFault h own = absurd own
  task_gained NoMemory h own = absurd own
  task_gained status h own = absurd h

-- what is cut short is not empty
pub cut_is_some : (gained text : List ℕ) → IsCutShort gained text → text ≢ []
cut_is_some [] text cut none = cut.more (sym cut.joined ∙ none)
cut_is_some (x ∷ xs) text cut none = let e : x ∷ (xs ++ cut.rest) ≡ [] = sym cut.joined ∙ none in cc

module _ (Outcome : Status → List ℕ → Type 0) (before after : SinkState) where
  this : (own : Status) (text : List ℕ) → Outcome own text → (status : Status) (other : List ℕ) → IsThis own text status other → Outcome status other
  this own text is status other same = subst (λ (s : Status). Outcome s other) (sym same.0) (subst (Outcome own) (sym same.1) is)

  gained_by : (own : Status) (text : List ℕ) → Outcome own text → (status : Status) → HasGained before after (IsThis own text status) →
      HasGained before after (Outcome status)
  gained_by own text is status h = (h.0, this own text is status h.0 h.1, h.2)

  -- the only outcome is one of these
  pub answered_by : (own : Status) (text : List ℕ) → Outcome own text → (status : Status) →
      IsAnswered (IsThis own text) before after status → IsAnswered Outcome before after status
  answered_by own text is WriteFault h = (h.0, (h.1.0, h.1.1, this own text is h.1.0 h.1.1 h.1.2, h.1.3))
  answered_by own text is NoMemory h = h
  answered_by own text is status h = gained_by own text is status h

  -- what was answered by itself was gained
  pub answered_gained : (status : Status) → IsAnswered Outcome before after status → IsOwn status → HasGained before after (Outcome status)
  answered_gained WriteFault h own = absurd own
  answered_gained NoMemory h own = absurd own
  answered_gained status h own = h

-- but where memory is wanting, what is written part by part ends as what is written at once
pub of_parts : (Outcome : Status → List ℕ → Type 0) (before after : SinkState) (status : Status) →
    status ≢ NoMemory → IsAnsweredInParts Outcome before after status → IsAnswered Outcome before after status
of_parts Outcome before after NoMemory memory h = absurd (memory refl)
of_parts Outcome before after status memory h = h

module _ (Own Outcome : Status → List ℕ → Type 0) (among : (status : Status) (text : List ℕ) → Own status text → Outcome status text)
    (before after : SinkState) where
  gained_among : (status : Status) → HasGained before after (Own status) → HasGained before after (Outcome status)
  gained_among status h = (h.0, among status h.0 h.1, h.2)

  -- each of these outcomes is one of those
  pub parts_among : (status : Status) → IsAnsweredInParts Own before after status → IsAnsweredInParts Outcome before after status
  parts_among WriteFault h = (h.0, (h.1.0, h.1.1, among h.1.0 h.1.1 h.1.2, h.1.3))
  parts_among NoMemory (inl none) = inl none
  parts_among NoMemory (inr some) = inr (some.0, some.1, among some.0 some.1 some.2, some.3)
  parts_among status h = gained_among status h

module _ (own : Status) (text : List ℕ) (before after : SinkState) where
  abbrev Written : Status → Type 0
  Written = IsAnswered (IsThis own text) before after

  -- where nothing is printed the status is that of the answer
  pub answered_status : (status : Status) → Written status → PrintsNothing status → status ≡ own
  answered_status (Usage fault) h none = h.1.0
  answered_status (Input problem) h none = h.1.0
  answered_status ReadFault h none = h.1.0
  answered_status status h none = absurd none
