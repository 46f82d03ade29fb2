-- A task has one reach, one text and one status, and what is gained on the way begins this text.
use Rattle.std.proofs.Common.{ℕ, List, refl}
use Rattle.ideal_laws.specs.declared.limits.LimitKind.TheVariants.{NormalWords}
use Rattle.job_steps.specs.declared.status.Status.{Status}
use Rattle.job_steps.specs.declared.status.Status.TheVariants.{Done, Limit}
use Rattle.job_steps.specs.Gains.{HasPrintedPart, HasPrintedSome}
use Rattle.job_steps.specs.Progress.{IsBeginning, IsReach, IsTaskText, IsText, Reach, Task, crowded, ideal_of_task, refused, whole}
use Rattle.job_steps.specs.Reaches.{HasOneOutcome, HasOneReach, HasOneText, IsPosed}
use Rattle.job_steps.specs.States.{SinkState}
use Rattle.job_steps.specs.Statuses.{HasGainedPart, HasGainedSome, IsTaskOutcome}
use Rattle.job_steps.proofs.Gaining.{beginning_trans, cut_of_beginning, no_room_for}
use Rattle.job_steps.proofs.Statuses.{one_task_status, task_outcome_status}
use Rattle.job_steps.proofs.FewElements.{few_elements}
use Rattle.job_steps.proofs.OneReach.{one_reach, one_task_text}
use Rattle.job_steps.proofs.Reached.{some_reach}
use Rattle.job_steps.proofs.Values.{some_quantity}

-- each task that is posed comes exactly so far
pub has_one_reach : HasOneReach
has_one_reach t h =
    let some = some_reach t h.setting h.some h.letters h.degrees (some_quantity (ideal_of_task t) h.setting)
    (λ d below basis is none. few_elements (ideal_of_task t) h.setting d below basis is t.limits h.limit h.among h.bounds
    none) in
    record { value = some.0; holds = some.1; only = λ reach is. one_reach t h.setting reach some.0 is some.1 }

-- and has exactly one text
pub has_one_text : HasOneText
has_one_text t h = let one = has_one_reach t h in one_task_text t h.setting one.value one.holds

module _ (t : Task) where
  -- the text of a task goes with a status
  outcome_of : (text : List ℕ) → IsTaskText t text → (status : Status) × IsTaskOutcome t status text
  outcome_of text h = by_reach h.0 h.1 h.2
    where
      by_reach : (reach : Reach) → IsReach t reach → IsText t reach text → (status : Status) × IsTaskOutcome t status text
      by_reach whole r x = (Done, (r, x))
      by_reach (refused kind d value) r x = (Limit kind d value, (refused kind d value, r, (refl, refl, refl), x))
      by_reach (crowded d value) r x = (Limit NormalWords d value, (crowded d value, r, (refl, refl, refl), x))

  -- the text of an outcome is that of the task
  outcome_text : (status : Status) (text : List ℕ) → IsTaskOutcome t status text → IsTaskText t text
  outcome_text Done text h = (whole, h.0, h.1)
  outcome_text (Limit kind d value) text h = (h.0, h.1, h.3)
  outcome_text status text h = absurd h

  module _ (posed : IsPosed t) where
    -- what was due begins the text of an outcome
    begun : (due : List ℕ) → ((text : List ℕ) → IsTaskText t text → IsBeginning due text) →
        (status : Status) × (text : List ℕ) × IsTaskOutcome t status text × IsBeginning due text
    begun due begins =
        let one = has_one_text t posed in
        let o = outcome_of one.value one.holds in
        (o.0, one.value, o.1, begins one.value one.holds)

    -- and what was gained of it is a beginning of this
    pub outcome_part : (before after : SinkState) → HasPrintedPart t before after → HasGainedPart before after (IsTaskOutcome t)
    outcome_part before after h =
        let o = begun h.due h.begins in
        let cut = cut_of_beginning h.part.gained h.due o.1 h.part.cut_short o.3 in
        let none = no_room_for before.room h.due o.1 o.3 h.part.no_room in
        (o.0, o.1, o.2, record { gained = h.part.gained; appended = h.part.appended; cut_short = cut; no_room = none })

    -- the same of some prefix
    pub outcome_some : (before after : SinkState) → HasPrintedSome t before after → HasGainedSome before after (IsTaskOutcome t)
    outcome_some before after h =
        let o = begun h.due h.begins in
        let own = beginning_trans h.part.gained h.due o.1 h.part.beginning o.3 in
        (o.0, o.1, o.2, record { gained = h.part.gained; appended = h.part.appended; beginning = own })

-- each task that is posed has exactly one status with its text
pub has_one_outcome : HasOneOutcome
has_one_outcome t posed =
    let one = has_one_text t posed in
    let own = outcome_of t one.value one.holds in
    record {
      value = (own.0, one.value);
      holds = own.1;
      only = λ (o : Status × List ℕ) h.
          let status = one_task_status t posed.setting o.0 own.0 (task_outcome_status t o.0 o.1 h) (task_outcome_status t own.0 one.value own.1) in
          let text = one.only o.1 (outcome_text t o.0 o.1 h) in
          λ i. (status i, text i);
    }
