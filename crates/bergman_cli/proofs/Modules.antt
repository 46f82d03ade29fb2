-- One status is due to a module, and what goes with it.
use Rattle.std.proofs.Common.{◌≡◌, ◌≢◌, ◌+◌, ◌-◌, ◌<◌, ℕ, false, List, [], All, refl, sym, ap, ◌∙◌, inl, inr, arith, subst}
use Rattle.std.proofs.lemmas.Bool.{false≢true}
use Rattle.std.proofs.lemmas.List.{get_or-take, length-take}
use Rattle.words.specs.Names.{Letters}
use Rattle.free_poly.specs.declared.term.Term.{Term}
use Rattle.ideal_laws.specs.Ideal.{ideal_over}
use Rattle.ideal_laws.specs.declared.limits.LimitKind.{LimitKind}
use Rattle.ideal_laws.specs.Laws.{IsSetting}
use Rattle.ideal_laws.specs.Limits.{standard_limits}
use Rattle.ideal_laws.specs.Quantities.{IsFirstRefused}
use Rattle.right_modules.specs.Answered.{IsFirstOther}
use Rattle.right_modules.specs.Laws.{IsModuleSetting}
use Rattle.right_modules.specs.Module.{IsShaped}
use Rattle.right_modules.specs.ModuleDimension.{IsModuleCoefficient}
use Rattle.right_modules.proofs.ModuleDimensions.{dimension_of_products, dimension_to_ideal}
use Rattle.relation_reader.proofs.Numbers.{neither_less}
use Rattle.command_words.specs.declared.job.Command.TheVariants.{Module}
use Rattle.command_words.specs.declared.job.Job.{Job}
use Rattle.job_steps.specs.declared.status.InputProblem.TheVariants.{TooFewNames, Shape}
use Rattle.job_steps.specs.declared.status.Status.{Status}
use Rattle.job_steps.specs.declared.status.Status.TheVariants.{Done, Input, Limit, Products}
use Rattle.job_steps.specs.Progress.{IsReach, Task, refused, whole}
use Rattle.job_steps.specs.Status.{PrintsNothing}
use Rattle.job_steps.specs.Statuses.{IsOwn}
use Rattle.job_steps.proofs.Reaches.{one_stop, whole_is_not_stopped}
use Rattle.bergman_cli.specs.Engines.{limits_of}
use Rattle.bergman_cli.specs.Module.{AreFewBelow, IsFirstLargeModule, IsModuleStatus, IsTextWith, PassesNoLimit, free_of}
use Rattle.bergman_cli.specs.Outcomes.{Writes}

-- the first relation of neither kind is one
module _ (free : ℕ) (relations : List (List Term)) where
  other_below : (a b : ℕ) → IsFirstOther free relations a → IsFirstOther free relations b → a < b → ⊥
  other_below a b ha hb lt =
      let size = length-take (b - 1) relations in
      ha.other (subst (IsShaped free) (get_or-take (b - 1) relations (a - 1) [] (omega (arith, lt, ha.from)))
      (hb.before (a - 1) [] (omega (arith, lt, ha.from, ha.upto, hb.upto, size))))

  one_other : (a b : ℕ) → IsFirstOther free relations a → IsFirstOther free relations b → a ≡ b
  one_other a b ha hb = neither_less a b (other_below a b ha hb) (other_below b a hb ha)

  -- and where it stands not all are of one of the kinds
  other_not_shaped : (a : ℕ) → IsFirstOther free relations a → All (IsShaped free) relations → ⊥
  other_not_shaped a h all = h.other (all (a - 1) [] (omega (arith, h.from, h.upto)))

module _ (job : Job) (letters : Letters) (relations : List (List Term)) where
  abbrev Due : Status → Type 0
  Due = IsModuleStatus job letters relations

  module _ (st : IsSetting (ideal_over job.modulus letters.weights relations)) where
    abbrev free : ℕ
    free = free_of job letters

    abbrev Shaped : Type 0
    Shaped = All (IsShaped free) relations

    abbrev most : ℕ
    most = standard_limits.normal_words

    -- the basis of all relations together as a task
    abbrev task : Task
    task = record {
      modulus = job.modulus;
      letters = letters;
      relations = relations;
      limits = limits_of job.engine;
      normal_words = most;
      bound = job.bound;
      shows_basis = false;
      shows_series = false;
    }

    whole_task : PassesNoLimit job letters relations → IsReach task whole
    whole_task none = (none, λ e. absurd (false≢true e))

    -- a degree has one module coefficient
    one_coefficient : Shaped → (d m n : ℕ) → IsModuleCoefficient (ideal_over job.modulus letters.weights relations) free d m →
        IsModuleCoefficient (ideal_over job.modulus letters.weights relations) free d n → m ≡ n
    one_coefficient shaped d m n a b =
        let ms : IsModuleSetting (ideal_over job.modulus letters.weights relations) free = record { setting = st; shaped = shaped } in
        let has = dimension_of_products (ideal_over job.modulus letters.weights relations) free ms d in
        let one = (has.dimension a.dimension).0 (dimension_to_ideal (ideal_over job.modulus letters.weights relations) free ms d a.dimension a.is_dimension) in
        let two = (has.dimension b.dimension).0 (dimension_to_ideal (ideal_over job.modulus letters.weights relations) free ms d b.dimension b.is_dimension) in
        omega (arith, a.rest, b.rest, one, two)

    abbrev Few : ℕ → Type 0
    Few d = AreFewBelow (ideal_over job.modulus letters.weights relations) free most d

    abbrev Large : ℕ → ℕ → Type 0
    Large d value = IsFirstLargeModule (ideal_over job.modulus letters.weights relations) free most d value

    few_not_large : Shaped → (n d v : ℕ) → Few n → Large d v → d < n → ⊥
    few_not_large shaped n d v few h lt =
        let f = few d lt in
        omega (arith, one_coefficient shaped d f.0 h.coefficient f.1 h.is_coefficient, f.2, h.large)

    one_large : Shaped → (d v e w : ℕ) → Large d v → Large e w → d ≡ e
    one_large shaped d v e w hd he = neither_less d e (few_not_large shaped e d v he.before hd) (few_not_large shaped d e w hd.before he)

    abbrev Refused : LimitKind → ℕ → ℕ → Type 0
    Refused kind d value = IsFirstRefused (ideal_over job.modulus letters.weights relations) (limits_of job.engine) job.bound kind d value

    none_or_refused : PassesNoLimit job letters relations → (k : LimitKind) (d v : ℕ) → Refused k d v → ⊥
    none_or_refused none k d v h = whole_is_not_stopped task st (whole_task none) (refused k d v) k d v h (refl, refl, refl)

    -- one limit is due
    one_limit : (k l : LimitKind) (d v e w : ℕ) → Due (Limit k d v) → Due (Limit l e w) → (k ≡ l) × (d ≡ e) × (v ≡ w)
    one_limit k l d v e w (ma, inl a) (mb, inl b) = one_stop task st (refused k d v) (refused l e w) k l d e v w a (refl, refl, refl) b (refl, refl, refl)
    one_limit k l d v e w (ma, inl a) (mb, inr b) = absurd (none_or_refused b.1.0 k d v a)
    one_limit k l d v e w (ma, inr a) (mb, inl b) = absurd (none_or_refused a.1.0 l e w b)
    one_limit k l d v e w (ma, inr a) (mb, inr b) = (a.0 ∙ sym b.0, one_large ma.1 d v e w a.1.2 b.1.2, a.1.2.kept ∙ sym b.1.2.kept)

    done_not_limit : Due Done → (k : LimitKind) (d v : ℕ) → Due (Limit k d v) → ⊥
    done_not_limit a k d v (m, inl b) = none_or_refused a.1 k d v b
    done_not_limit a k d v (m, inr b) = few_not_large a.0.1 (job.bound + 1) d v a.2 b.1.2 (omega (arith, b.1.1))

    -- one status is due
    pub one_module_status : (status other : Status) → Due status → Due other → status ≡ other
    one_module_status Done Done a b = refl
    one_module_status Done (Input (TooFewNames n)) a b = absurd (omega (arith, a.0.0, b.0, b.1))
    one_module_status Done (Input (Shape r)) a b = absurd (other_not_shaped free relations r b.1 a.0.1)
    one_module_status Done (Limit k d v) a b = absurd (done_not_limit a k d v b)
    one_module_status (Input (TooFewNames m)) Done a b = absurd (omega (arith, b.0.0, a.0, a.1))
    one_module_status (Input (TooFewNames m)) (Input (TooFewNames n)) a b = ap (λ (k : ℕ). Input (TooFewNames k)) (a.1 ∙ sym b.1)
    one_module_status (Input (TooFewNames m)) (Input (Shape r)) a b = absurd (omega (arith, b.0, a.0, a.1))
    one_module_status (Input (TooFewNames m)) (Limit k d v) a b = absurd (omega (arith, b.0.0, a.0, a.1))
    one_module_status (Input (Shape q)) Done a b = absurd (other_not_shaped free relations q a.1 b.0.1)
    one_module_status (Input (Shape q)) (Input (TooFewNames n)) a b = absurd (omega (arith, a.0, b.0, b.1))
    one_module_status (Input (Shape q)) (Input (Shape r)) a b = ap (λ (n : ℕ). Input (Shape n)) (one_other free relations q r a.1 b.1)
    one_module_status (Input (Shape q)) (Limit k d v) a b = absurd (other_not_shaped free relations q a.1 b.0.1)
    one_module_status (Limit k d v) Done a b = absurd (done_not_limit b k d v a)
    one_module_status (Limit k d v) (Input (TooFewNames n)) a b = absurd (omega (arith, a.0.0, b.0, b.1))
    one_module_status (Limit k d v) (Input (Shape r)) a b = absurd (other_not_shaped free relations r b.1 a.0.1)
    one_module_status (Limit k d v) (Limit l e w) a b = let same = one_limit k l d v e w a b in λ i. Limit (same.0 i) (same.1 i) (same.2 i)
    one_module_status Done other a b = absurd b
    one_module_status (Input (TooFewNames m)) other a b = absurd b
    one_module_status (Input (Shape q)) other a b = absurd b
    one_module_status (Limit k d v) other a b = absurd b
    one_module_status status other a b = absurd a

  -- the status that is due is one that the work ends with by itself
  pub module_status_own : (status : Status) → Due status → IsOwn status
  module_status_own Done h = tt
  module_status_own (Input (TooFewNames names)) h = tt
  module_status_own (Input (Shape relation)) h = tt
  module_status_own (Limit kind d value) h = tt
  module_status_own status h = absurd h

  -- where nothing may be printed the text is empty
  pub module_quiet : (status : Status) (text : List ℕ) → IsTextWith job letters relations status text → PrintsNothing status → text ≡ []
  module_quiet Done text h none = absurd none
  module_quiet status text h none = h

  -- a text that is not empty is written
  pub module_writes : (status : Status) (text : List ℕ) → IsTextWith job letters relations status text → text ≢ [] → Writes Module status
  module_writes Done text h some = tt
  module_writes (Products d value) text h some = tt
  module_writes status text h some = absurd (some h)
