-- The command normal ends in one way, with a status of its own.
use Rattle.std.proofs.Common.{◌≡◌, ◌≢◌, ◌<◌, ◌≤◌, ℕ, List, [], length, refl, sym, ap, ◌∙◌, arith, subst, take}
use Rattle.std.proofs.lemmas.List.Elements.{All-take}
use Rattle.words.specs.Names.{Letters}
use Rattle.free_poly.specs.declared.term.Term.{Term}
use Rattle.ideal_laws.specs.Ideal.{ideal_over}
use Rattle.ideal_laws.specs.declared.limits.LimitKind.{LimitKind}
use Rattle.ideal_laws.specs.Laws.{IsRelation, IsSetting}
use Rattle.relation_reader.proofs.Numbers.{neither_less}
use Rattle.command_words.specs.declared.job.Command.TheVariants.{Normal}
use Rattle.command_words.specs.declared.job.Job.{Job}
use Rattle.job_steps.specs.declared.status.Status.{Status}
use Rattle.job_steps.specs.declared.status.Status.TheVariants.{Done, Limit}
use Rattle.job_steps.specs.Status.{PrintsNothing}
use Rattle.job_steps.specs.Statuses.{IsOwn, IsTaskStatus}
use Rattle.job_steps.proofs.Statuses.{one_task_status}
use Rattle.bergman_cli.specs.Normal.{Ending, HasNone, IsEnding, IsEndingText, IsFirstPlace, IsNormalOutcome, IsNormalStatus, above, answered}
use Rattle.bergman_cli.specs.Normal.{ideal_size, normal_task, status_of, stopped, too_few, too_many}
use Rattle.bergman_cli.specs.Outcomes.{Writes}

-- one place is the first
first_is_one : (P : List Term → Type 0) (fs : List (List Term)) (a b : ℕ) → IsFirstPlace P fs a → IsFirstPlace P fs b → a ≡ b
first_is_one P fs a b h k = neither_less a b (λ less. k.before a less h.here) (λ less. h.before b less k.here)

none_has_first : (P : List Term → Type 0) (fs : List (List Term)) (a : ℕ) → HasNone P fs → IsFirstPlace P fs a → ⊥
none_has_first P fs a none first = none a first.within first.here

few_are_not_enough : (m n : ℕ) → m < n → n ≤ m → ⊥
few_are_not_enough m n less le = omega (arith, less, le)

done_is_no_limit : (kind : LimitKind) (d value : ℕ) → Done ≡ Limit kind d value → ⊥
done_is_no_limit kind d value e = cc

module _ (job : Job) (letters : Letters) (relations : List (List Term)) where
  -- some of the relations are a setting too
  pub part_setting : (n : ℕ) → IsSetting (ideal_over job.modulus letters.weights relations)
      → IsSetting (ideal_over job.modulus letters.weights (take n relations))
  part_setting n st = record {
    modulus = st.modulus;
    are_weights = st.are_weights;
    are_relations = All-take (IsRelation job.modulus letters.weights) n relations st.are_relations;
  }

  abbrev Ends : Ending → Type 0
  Ends = IsEnding job letters relations

  abbrev Says : Ending → Status
  Says = status_of job letters relations

  abbrev Computes : Status → Type 0
  Computes = IsTaskStatus (normal_task job letters relations)

  module _ (st : IsSetting (ideal_over job.modulus letters.weights relations)) where
    one_computed : (s t : Status) → Computes s → Computes t → s ≡ t
    one_computed s t a b = one_task_status (normal_task job letters relations) (part_setting (ideal_size job relations) st) s t a b

    not_stopped : (kind : LimitKind) (d value : ℕ) → Computes Done → Computes (Limit kind d value) → ⊥
    not_stopped kind d value a b = done_is_no_limit kind d value (one_computed Done (Limit kind d value) a b)

    -- the work ends in one way
    one_ending : (a b : Ending) → Ends a → Ends b → Says a ≡ Says b
    one_ending too_few too_few h k = refl
    one_ending too_few (above q) h k = absurd (few_are_not_enough (length relations) job.ask h k.0)
    one_ending too_few (stopped l e w) h k = absurd (few_are_not_enough (length relations) job.ask h k.0.0)
    one_ending too_few (too_many q) h k = absurd (few_are_not_enough (length relations) job.ask h k.0.0.0)
    one_ending too_few answered h k = absurd (few_are_not_enough (length relations) job.ask h k.0.0.0)
    one_ending (above p) too_few h k = absurd (few_are_not_enough (length relations) job.ask k h.0)
    one_ending (above p) (above q) h k = ap (λ (n : ℕ). Says (above n)) (first_is_one _ _ p q h.1 k.1)
    one_ending (above p) (stopped l e w) h k = absurd (none_has_first _ _ p k.0.1 h.1)
    one_ending (above p) (too_many q) h k = absurd (none_has_first _ _ p k.0.0.1 h.1)
    one_ending (above p) answered h k = absurd (none_has_first _ _ p k.0.0.1 h.1)
    one_ending (stopped kind d v) too_few h k = absurd (few_are_not_enough (length relations) job.ask k h.0.0)
    one_ending (stopped kind d v) (above q) h k = absurd (none_has_first _ _ q h.0.1 k.1)
    one_ending (stopped kind d v) (stopped l e w) h k = one_computed (Limit kind d v) (Limit l e w) h.1 k.1
    one_ending (stopped kind d v) (too_many q) h k = absurd (not_stopped kind d v k.0.1 h.1)
    one_ending (stopped kind d v) answered h k = absurd (not_stopped kind d v k.0.1 h.1)
    one_ending (too_many p) too_few h k = absurd (few_are_not_enough (length relations) job.ask k h.0.0.0)
    one_ending (too_many p) (above q) h k = absurd (none_has_first _ _ q h.0.0.1 k.1)
    one_ending (too_many p) (stopped l e w) h k = absurd (not_stopped l e w h.0.1 k.1)
    one_ending (too_many p) (too_many q) h k = ap (λ (n : ℕ). Says (too_many n)) (first_is_one _ _ p q h.1 k.1)
    one_ending (too_many p) answered h k = absurd (none_has_first _ _ p k.1 h.1)
    one_ending answered too_few h k = absurd (few_are_not_enough (length relations) job.ask k h.0.0.0)
    one_ending answered (above q) h k = absurd (none_has_first _ _ q h.0.0.1 k.1)
    one_ending answered (stopped l e w) h k = absurd (not_stopped l e w h.0.1 k.1)
    one_ending answered (too_many q) h k = absurd (none_has_first _ _ q h.1 k.1)
    one_ending answered answered h k = refl

    -- one status is due
    pub one_normal_status : (status other : Status) → IsNormalStatus job letters relations status → IsNormalStatus job letters relations other → status ≡ other
    one_normal_status status other a b = a.2 ∙ one_ending a.0 b.0 a.1 b.1 ∙ sym b.2

  ending_own : (ending : Ending) → IsOwn (Says ending)
  ending_own too_few = tt
  ending_own (above place) = tt
  ending_own (stopped kind d value) = tt
  ending_own (too_many place) = tt
  ending_own answered = tt

  -- the status that is due is one that the work ends with by itself
  pub normal_status_own : (status : Status) → IsNormalStatus job letters relations status → IsOwn status
  normal_status_own status h = subst IsOwn (sym h.2) (ending_own h.0)

  ending_quiet : (ending : Ending) (text : List ℕ) → IsEndingText job letters relations ending text → PrintsNothing (Says ending) → text ≡ []
  ending_quiet too_few text h none = h
  ending_quiet (above place) text h none = h
  ending_quiet (stopped kind d value) text h none = h
  ending_quiet (too_many place) text h none = absurd none
  ending_quiet answered text h none = absurd none

  -- where nothing may be printed the text is empty
  pub normal_quiet : (status : Status) (text : List ℕ) → IsNormalOutcome job letters relations status text → PrintsNothing status → text ≡ []
  normal_quiet status text h none = ending_quiet h.0 text h.3 (subst PrintsNothing h.2 none)

  ending_writes : (ending : Ending) (text : List ℕ) → IsEndingText job letters relations ending text → text ≢ [] → Writes Normal (Says ending)
  ending_writes too_few text h some = some h
  ending_writes (above place) text h some = some h
  ending_writes (stopped kind d value) text h some = some h
  ending_writes (too_many place) text h some = tt
  ending_writes answered text h some = tt

  -- a text that is not empty is written
  pub normal_writes : (status : Status) (text : List ℕ) → IsNormalOutcome job letters relations status text → text ≢ [] → Writes Normal status
  normal_writes status text h some = subst (Writes Normal) (sym h.2) (ending_writes h.0 text h.3 some)
