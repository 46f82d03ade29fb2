-- What chains answers is an outcome of its job, and one status of it is due.
use Rattle.std.proofs.Common.{◌≡◌, ◌≢◌, ◌+◌, ℕ, List, [], length, refl, sym, ap, ◌∙◌, arith, subst, false, true}
use Rattle.std.specs.List.{Contains}
use Rattle.words.specs.Names.{Letters}
use Rattle.free_poly.specs.declared.term.Term.{Term}
use Rattle.ideal_laws.specs.declared.limits.LimitKind.{LimitKind}
use Rattle.ideal_laws.specs.Engine.{Elements, IsReducedUpto}
use Rattle.ideal_laws.specs.Ideal.{IsMinimal, ideal_over}
use Rattle.ideal_laws.specs.Kept.{IsKept}
use Rattle.ideal_laws.specs.Laws.{IsSetting}
use Rattle.ideal_laws.specs.Overlaps.{ListsLower}
use Rattle.ideal_laws.specs.Quantities.{IsFirstRefused, NonePassesUpto}
use Rattle.anick_chains.specs.BasisTips.{HasMinimalChains, leads_of}
use Rattle.anick_chains.specs.Listed.{AreListed}
use Rattle.anick_chains.specs.Listing.{IsFirstMany}
use Rattle.command_words.specs.declared.job.Command.TheVariants as commands
use Rattle.command_words.specs.declared.job.Job.{Job}
use Rattle.job_steps.specs.declared.answer.Answer.{Answer}
use Rattle.job_steps.specs.declared.status.Status.{Status}
use Rattle.job_steps.specs.declared.status.Status.TheVariants.{Done, Usage, Input, Limit, Chains, ReadFault}
use Rattle.job_steps.specs.Progress.{refused}
use Rattle.job_steps.specs.Status.{PrintsNothing}
use Rattle.job_steps.specs.Statuses.{IsOwn, IsTaskStatus}
use Rattle.job_steps.proofs.Statuses.{one_task_status}
use Rattle.bergman_cli.specs.Chains.{HasChainText, HasFewChains, HasManyChains, IsChainsOutcome, IsChainsStatus, IsChainsText}
use Rattle.bergman_cli.specs.Chains.{chains_task, most_chains}
use Rattle.bergman_cli.specs.Engines.{limits_of}
use Rattle.bergman_cli.specs.Outcomes.{Writes}
use Rattle.bergman_cli.proofs.ChainNumbers.{few_not_many, listed_number, many_minimal, one_first_many}
use Rattle.bergman_cli.proofs.OwnLimits.{own_none, own_refused}

module _ (job : Job) (letters : Letters) (relations : List (List Term)) where
  abbrev Due : Status → Type 0
  Due = IsChainsStatus job letters relations

  abbrev Outcome : Answer → Type 0
  Outcome a = IsChainsOutcome job letters relations a.status a.text

  abbrev Tasked : Status → Type 0
  Tasked = IsTaskStatus (chains_task job letters relations)

  abbrev T : List ℕ → Type 0
  T = IsMinimal (ideal_over job.modulus letters.weights relations)

  -- the statuses of the command are its own
  pub chains_own : (status : Status) → Due status → IsOwn status
  chains_own Done h = tt
  chains_own (Limit kind d value) h = tt
  chains_own (Chains d value) h = tt
  chains_own status h = absurd h

  -- with one of them something may be printed
  pub chains_prints : (status : Status) → Due status → PrintsNothing status → ⊥
  chains_prints (Usage fault) h none = h
  chains_prints (Input problem) h none = h
  chains_prints ReadFault h none = h
  chains_prints status h none = none

  -- only the chain text is not empty
  pub chains_writes : (status : Status) (text : List ℕ) → Due status → IsChainsText job letters relations status text → text ≢ [] →
      Writes commands.Chains status
  chains_writes Done text due h some = tt
  chains_writes (Limit kind d value) text due h some = some h
  chains_writes (Chains d value) text due h some = some h
  chains_writes status text due h some = absurd due

  module _ (st : IsSetting (ideal_over job.modulus letters.weights relations)) where
    few_or_many : HasFewChains job letters relations → (d value : ℕ) → HasManyChains job letters relations d value → ⊥
    few_or_many few d value many = few_not_many T (length letters.weights) letters.weights job.bound most_chains few.number d few.is_number few.few many.first

    stopped : (kind : LimitKind) (d value : ℕ) → Tasked Done → Tasked (Limit kind d value) → Done ≡ Limit kind d value
    stopped kind d value a b = one_task_status (chains_task job letters relations) st Done (Limit kind d value) a b

    not_stopped : (kind : LimitKind) (d value : ℕ) → Tasked Done → Tasked (Limit kind d value) → ⊥
    not_stopped kind d value a b = let e = stopped kind d value a b in cc e

    one_many : (d value e other : ℕ) → HasManyChains job letters relations d value → HasManyChains job letters relations e other →
        Chains d value ≡ Chains e other
    one_many d value e other a b =
        let at : d ≡ e = one_first_many T (length letters.weights) letters.weights job.bound most_chains d e a.first b.first in
        let same : value ≡ other = a.kept ∙ sym b.kept in
        λ i. Chains (at i) (same i)

    -- one status is due
    pub one_chains_status : (status other : Status) → Due status → Due other → status ≡ other
    one_chains_status Done Done a b = refl
    one_chains_status Done (Limit kind d value) a b = stopped kind d value a.0 b
    one_chains_status Done (Chains d value) a b = absurd (few_or_many a.1 d value b.1)
    one_chains_status (Limit kind d value) Done a b = sym (stopped kind d value b.0 a)
    one_chains_status (Limit kind d value) (Limit k e other) a b =
        one_task_status (chains_task job letters relations) st (Limit kind d value) (Limit k e other) a b
    one_chains_status (Limit kind d value) (Chains e other) a b = absurd (not_stopped kind d value b.0 a)
    one_chains_status (Chains d value) Done a b = absurd (few_or_many b.1 d value a.1)
    one_chains_status (Chains d value) (Limit kind e other) a b = absurd (not_stopped kind e other a.0 b)
    one_chains_status (Chains d value) (Chains e other) a b = one_many d value e other a.1 b.1
    one_chains_status Done other a b = absurd b
    one_chains_status (Limit kind d value) other a b = absurd b
    one_chains_status (Chains d value) other a b = absurd b
    one_chains_status status other a b = absurd a

  module _ (limits : List (LimitKind × ℕ)) (same : limits ≡ limits_of job.engine) (p : ℕ) (field : p ≡ job.modulus) where
    -- a limit of the engine
    pub refused_chains : (answer : Answer) (kind : LimitKind) (d value : ℕ) → answer ≡ record { status = Limit kind d value; text = [] } →
        IsFirstRefused (ideal_over p letters.weights relations) limits job.bound kind d value
        → Outcome answer
    refused_chains answer kind d value is first =
        let own = own_refused job letters.weights relations limits same p field kind d value first in
        subst Outcome (sym is) ((refused kind d value, own, (refl, refl, refl)), refl)

    own_whole : NonePassesUpto (ideal_over p letters.weights relations) limits job.bound → Tasked Done
    own_whole none = (
      own_none job letters.weights relations limits same p field none,
      λ shows. let e : false ≡ true = shows in cc e,
    )

    module _ (st : IsSetting (ideal_over p letters.weights relations)) (basis : Elements) (weights : basis.weights ≡ letters.weights)
        (kept : IsKept basis) (reduced : IsReducedUpto p relations basis)
        (done : basis.done ≡ job.bound) (none : NonePassesUpto (ideal_over p letters.weights relations) limits job.bound) where
      own_setting : IsSetting (ideal_over p basis.weights relations)
      own_setting = subst (λ (ws : List ℕ). IsSetting (ideal_over p ws relations)) (sym weights) st

      -- too many chains
      pub many_chains : HasMinimalChains → ListsLower → (answer : Answer) (most d value : ℕ) → answer ≡ record { status = Chains d value; text = [] }
          → most ≡ most_chains → value ≡ most + 1
          → IsFirstMany (Contains (leads_of basis.elements)) (length basis.weights) basis.weights job.bound most d → Outcome answer
      many_chains law lower answer most d value is count plus first =
          let lists = lower (ideal_over p basis.weights relations) own_setting (basis.done + 1) basis
          (record { kept = kept; next = refl; same_weights = refl; reduced = reduced }) in
          let minimal = many_minimal law (ideal_over p basis.weights relations) own_setting (basis.done + 1) basis.elements lists job.bound most d
          (omega (arith, done)) first in
          let own = subst (λ (m : ℕ). IsFirstMany (IsMinimal (ideal_over m letters.weights relations)) (length letters.weights) letters.weights job.bound most
          d) field
          (subst (λ (ws : List ℕ). IsFirstMany (IsMinimal (ideal_over p ws relations)) (length ws) ws job.bound most d) weights minimal) in
          let many = subst (λ (n : ℕ). IsFirstMany T (length letters.weights) letters.weights job.bound n d) count own in
          subst Outcome (sym is) ((own_whole none, record { first = many; kept = plus ∙ ap (λ (n : ℕ). n + 1) count }), refl)

      -- the chain text
      pub told_chains : (answer : Answer) (text : List ℕ) → answer ≡ record { status = Done; text = text }
          → (IsSetting (ideal_over p basis.weights relations) → IsReducedUpto p relations basis
          → HasChainText (IsMinimal (ideal_over p basis.weights relations)) letters job text) → Outcome answer
      told_chains answer text is told =
          let h = told own_setting reduced in
          let own : AreListed T (length letters.weights) letters.weights job.bound h.chains =
          subst (λ (m : ℕ). AreListed (IsMinimal (ideal_over m letters.weights relations)) (length letters.weights) letters.weights job.bound h.chains) field
          (subst (λ (ws : List ℕ). AreListed (IsMinimal (ideal_over p ws relations)) (length letters.weights) letters.weights job.bound h.chains) weights
          h.listed) in
          let few : HasFewChains job letters relations = record {
            number = length h.chains;
            is_number = listed_number T (length letters.weights) letters.weights job.bound h.chains own;
            few = h.few;
          } in
          let list : HasChainText T letters job text = record { chains = h.chains; listed = own; few = h.few; printed = h.printed } in
          subst Outcome (sym is) ((own_whole none, few), list)
