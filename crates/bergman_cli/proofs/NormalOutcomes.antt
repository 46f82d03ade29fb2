-- What normal answers is an outcome of its job.
use Rattle.std.proofs.Common.{◌≡◌, ◌+◌, ◌-◌, ◌≤◌, ℕ, List, [], All, drop, length, length-drop, take, refl, sym, ap, ◌∙◌, inl, inr, arith, subst}
use Rattle.std.proofs.lemmas.List.{take_all}
use Rattle.std.proofs.lemmas.List.Elements.{All-drop, All-take}
use Rattle.words.specs.Names.{Letters}
use Rattle.free_poly.specs.declared.term.Term.{Term}
use Rattle.ideal_laws.specs.Ideal.{ideal_over}
use Rattle.ideal_laws.specs.declared.limits.LimitKind.{LimitKind}
use Rattle.ideal_laws.specs.Quantities.{IsFirstRefused, NonePassesUpto}
use Rattle.command_words.specs.declared.job.Job.{Job}
use Rattle.job_steps.specs.declared.status.InputProblem.TheVariants.{AboveBound}
use Rattle.job_steps.specs.declared.status.Status.{Status}
use Rattle.job_steps.specs.declared.status.Status.TheVariants.{Done, Input, Limit}
use Rattle.job_steps.specs.Progress.{refused}
use Rattle.job_steps.specs.Statuses.{IsTaskStatus}
use Rattle.bergman_cli.specs.Engines.{limits_of}
use Rattle.bergman_cli.specs.Normal.{IsAbove, IsAnsweredBy, IsAskable, IsFirstPlace, IsNormalOutcome, above, answered, defining_relations, ideal_size}
use Rattle.bergman_cli.specs.Normal.{normal_task, questions_of, stopped, too_many}
use Rattle.bergman_cli.proofs.OwnLimits.{own_none, own_refused}

-- what holds of all relations holds of a part of them
pub All-part : (P : List Term → Type 0) (whole rs : List (List Term)) (a b : ℕ) → rs ≡ whole → All P whole → All P (take a (drop b rs))
All-part P whole rs a b is h = All-take P a (drop b rs) (All-drop P b rs (subst (All P) (sym is) h))

-- the questions are the part behind the relations of the ideal
pub questions-part : (job : Job) (whole rs : List (List Term)) → rs ≡ whole →
    take (length rs - (length rs - job.ask)) (drop (length rs - job.ask) rs) ≡ questions_of job whole
questions-part job whole rs is =
    take_all (length rs - (length rs - job.ask)) (drop (length rs - job.ask) rs) (omega (arith, length-drop (length rs - job.ask) rs))
    ∙ ap (λ (l : List (List Term)). drop (length l - job.ask) l) is

module _ (job : Job) (letters : Letters) (relations : List (List Term)) where
  -- a question above the bound
  pub above_outcome : (n place : ℕ) → n ≡ ideal_size job relations + place + 1 → job.ask ≤ length relations →
      IsFirstPlace (IsAbove letters.weights job.bound) (questions_of job relations) place → IsNormalOutcome job letters relations (Input (AboveBound n)) []
  above_outcome n place number enough first = (above place, (enough, first), ap (λ (m : ℕ). Input (AboveBound m)) number, refl)

  module _ (askable : IsAskable job letters relations) (limits : List (LimitKind × ℕ)) (same : limits ≡ limits_of job.engine) (p : ℕ) (field : p ≡ job.modulus)
      (alphabet : Letters) (names : alphabet ≡ letters) (defining : List (List Term)) (part : defining ≡ defining_relations job relations) where
    -- a limit of the engine
    pub stopped_outcome : (kind : LimitKind) (d value : ℕ) → IsFirstRefused (ideal_over p alphabet.weights defining) limits job.bound kind d value →
        IsNormalOutcome job letters relations (Limit kind d value) []
    stopped_outcome kind d value first =
        let own : IsFirstRefused (ideal_over job.modulus letters.weights (defining_relations job relations)) (limits_of job.engine) job.bound kind d value =
        subst (λ (rs : List (List Term)). IsFirstRefused (ideal_over job.modulus letters.weights rs) (limits_of job.engine) job.bound kind d value)
        part
        (subst (λ (l : Letters). IsFirstRefused (ideal_over job.modulus l.weights defining) (limits_of job.engine) job.bound kind d value) names
        (own_refused job alphabet.weights defining limits same p field kind d value first)) in
        (stopped kind d value, (askable, (refused kind d value, own, (refl, refl, refl))), refl, refl)

    computed : NonePassesUpto (ideal_over p alphabet.weights defining) limits job.bound → IsTaskStatus (normal_task job letters relations) Done
    computed none =
        let own : NonePassesUpto (ideal_over job.modulus letters.weights (defining_relations job relations)) (limits_of job.engine) job.bound =
        subst (λ (rs : List (List Term)). NonePassesUpto (ideal_over job.modulus letters.weights rs) (limits_of job.engine) job.bound) part
        (subst (λ (l : Letters). NonePassesUpto (ideal_over job.modulus l.weights defining) (limits_of job.engine) job.bound) names
        (own_none job alphabet.weights defining limits same p field none)) in
        (own, λ shown. absurd (let never : ⊥ = cc in never))

    by_kind : NonePassesUpto (ideal_over p alphabet.weights defining) limits job.bound → (status : Status) (text : List ℕ) →
        IsAnsweredBy job.modulus letters (defining_relations job relations) (questions_of job relations) status text →
        IsNormalOutcome job letters relations status text
    by_kind none status text (inl many) = (too_many many.0, ((askable, computed none), many.1), many.2, many.3)
    by_kind none status text (inr all) = (answered, ((askable, computed none), all.0), all.1, all.2)

    -- the questions are answered, or those before one with too many triples
    pub answered_outcome : NonePassesUpto (ideal_over p alphabet.weights defining) limits job.bound → (questions : List (List Term)) →
        questions ≡ questions_of job relations → (status : Status) (text : List ℕ) → IsAnsweredBy p alphabet defining questions status text →
        IsNormalOutcome job letters relations status text
    answered_outcome none questions asked status text h = by_kind none status text
        (subst (λ (fs : List (List Term)). IsAnsweredBy job.modulus letters (defining_relations job relations) fs status text) asked
        (subst (λ (rs : List (List Term)). IsAnsweredBy job.modulus letters rs questions status text) part
        (subst (λ (l : Letters). IsAnsweredBy job.modulus l defining questions status text) names
        (subst (λ (m : ℕ). IsAnsweredBy m alphabet defining questions status text) field h))))
