-- What module answers is an outcome of its job.
use Rattle.std.proofs.Common.{◌≡◌, ◌⊎◌, ◌≤◌, ℕ, List, [], All, get_or, length, refl, sym, arith, subst, inl, inr}
use Rattle.ideal_laws.specs.Ideal.{ideal_of, ideal_over}
use Rattle.ideal_laws.specs.declared.limits.LimitKind.{LimitKind}
use Rattle.ideal_laws.specs.declared.limits.LimitKind.TheVariants.{NormalWords}
use Rattle.ideal_laws.specs.declared.presentation.Presentation.{Presentation}
use Rattle.ideal_laws.specs.Laws.{IsSetting}
use Rattle.ideal_laws.specs.Limits.{standard_limits}
use Rattle.ideal_laws.specs.Quantities.{IsFirstRefused, NonePassesUpto}
use Rattle.right_modules.specs.Answered.{AreModuleNumbers, AreModuleOutside, AreShaped, IsFirstLarge, free_letters}
use Rattle.right_modules.specs.ModuleDimension.{IsModuleCoefficient}
use Rattle.right_modules.proofs.ModuleCounts.{counts_module}
use Rattle.command_words.specs.declared.job.Job.{Job}
use Rattle.job_steps.specs.declared.answer.Answer.{Answer}
use Rattle.job_steps.specs.declared.status.Status.TheVariants.{Done, Limit}
use Rattle.bergman_cli.specs.Engines.{limits_of}
use Rattle.bergman_cli.specs.Module.{IsCrowded, IsFirstLargeModule, IsModuleOutcome, IsModuleText}
use Rattle.bergman_cli.proofs.OwnLimits.{own_none, own_refused}

module _ (job : Job) (given : Presentation) (answer : Answer) where
  abbrev Outcome : Answer → Type 0
  Outcome a = IsModuleOutcome job given.alphabet given.relations a.status a.text

  module _ (names : job.gens ≤ length given.alphabet.weights) (shaped : AreShaped given job.gens) (limits : List (LimitKind × ℕ))
      (same : limits ≡ limits_of job.engine) (p : ℕ) (field : p ≡ job.modulus)
      (st : IsSetting (ideal_of p given)) (limit : ℕ) (standard : limit ≡ standard_limits.normal_words) where
    abbrev weights : List ℕ
    weights = given.alphabet.weights

    abbrev free : ℕ
    free = free_letters given job.gens

    abbrev most : ℕ
    most = standard_limits.normal_words

    -- the module words that are no leading words are counted by the coefficient
    counted : (d : ℕ) (words : List (List ℕ)) → AreModuleOutside p given job.gens d words
        → IsModuleCoefficient (ideal_over p weights given.relations) free d (length words)
    counted d words outside = (counts_module (ideal_over p weights given.relations) free (record { setting = st; shaped = shaped }) d words outside
        (length words)).1 refl

    large : (d value : ℕ) → IsFirstLarge p given job.gens most job.bound d value → IsFirstLargeModule (ideal_over p weights given.relations) free most d value
    large d value h = record {
      before = λ e lt. let b = h.before e lt in (length b.0, counted e b.0 b.1, b.2);
      coefficient = length h.words;
      is_coefficient = counted d h.words h.are_outside;
      large = h.large;
      kept = h.kept;
    }

    own_limit : (kind : LimitKind) (d value : ℕ) → IsFirstRefused (ideal_over p weights given.relations) limits job.bound kind d value
        ⊎ (NonePassesUpto (ideal_over p weights given.relations) limits job.bound × (kind ≡ NormalWords)
        × IsFirstLarge p given job.gens limit job.bound d value)
        → IsFirstRefused (ideal_over job.modulus weights given.relations) (limits_of job.engine) job.bound kind d value
        ⊎ ((kind ≡ NormalWords) × IsCrowded job given.alphabet given.relations d value)
    own_limit kind d value (inl h) = inl (own_refused job weights given.relations limits same p field kind d value h)
    own_limit kind d value (inr h) =
        inr (
          h.1,
          (
            own_none job weights given.relations limits same p field h.0,
            h.2.upto,
            subst (λ (q : ℕ). IsFirstLargeModule (ideal_over q weights given.relations) free most d value) field
                (large d value (subst (λ (n : ℕ). IsFirstLarge p given job.gens n job.bound d value) standard h.2)),
          ),
        )

    -- a limit of the engine, or of the normal module words
    pub limit_outcome : (kind : LimitKind) (d value : ℕ) → answer ≡ record { status = Limit kind d value; text = [] }
        → IsFirstRefused (ideal_over p weights given.relations) limits job.bound kind d value
        ⊎ (NonePassesUpto (ideal_over p weights given.relations) limits job.bound × (kind ≡ NormalWords)
        × IsFirstLarge p given job.gens limit job.bound d value)
        → Outcome answer
    limit_outcome kind d value is h = subst Outcome (sym is) (((names, shaped), own_limit kind d value h), refl)

    -- the whole module
    pub whole_outcome : (text numbers : List ℕ) → answer ≡ record { status = Done; text = text }
        → NonePassesUpto (ideal_over p weights given.relations) limits job.bound
        → AreModuleNumbers p given job.gens job.bound numbers → All (λ n. n ≤ limit) numbers →
        IsModuleText job given.alphabet given.relations text → Outcome answer
    whole_outcome text numbers is none are few printed =
        let own = subst (λ (q : ℕ). AreModuleNumbers q given job.gens job.bound numbers) field are in
        subst Outcome (sym is) (
          (
            (names, shaped),
            own_none job weights given.relations limits same p field none,
            λ d lt.
                (get_or numbers d 0, own.each d (omega (arith, lt)), omega (arith, few d 0 (omega (arith, lt, own.size)), standard)),
          ),
          printed,
        )
