-- What the run of an engine says of its limits is said of those of the job.
use Rattle.std.proofs.Common.{◌≡◌, ℕ, List, subst}
use Rattle.free_poly.specs.declared.term.Term.{Term}
use Rattle.ideal_laws.specs.Ideal.{ideal_over}
use Rattle.ideal_laws.specs.declared.limits.LimitKind.{LimitKind}
use Rattle.ideal_laws.specs.Quantities.{IsFirstRefused, NonePassesUpto}
use Rattle.command_words.specs.declared.job.Job.{Job}
use Rattle.bergman_cli.specs.Engines.{limits_of}

module _ (job : Job) (weights : List ℕ) (relations : List (List Term)) (limits : List (LimitKind × ℕ)) (same : limits ≡ limits_of job.engine) (p : ℕ)
    (field : p ≡ job.modulus) where
  -- a limit that is passed
  pub own_refused : (kind : LimitKind) (d value : ℕ) → IsFirstRefused (ideal_over p weights relations) limits job.bound kind d value →
      IsFirstRefused (ideal_over job.modulus weights relations) (limits_of job.engine) job.bound kind d value
  own_refused kind d value first =
      subst (λ (m : ℕ). IsFirstRefused (ideal_over m weights relations) (limits_of job.engine) job.bound kind d value) field
      (subst (λ (l : List (LimitKind × ℕ)). IsFirstRefused (ideal_over p weights relations) l job.bound kind d value) same first)

  -- no limit
  pub own_none : NonePassesUpto (ideal_over p weights relations) limits job.bound →
      NonePassesUpto (ideal_over job.modulus weights relations) (limits_of job.engine) job.bound
  own_none none = subst (λ (m : ℕ). NonePassesUpto (ideal_over m weights relations) (limits_of job.engine) job.bound) field
      (subst (λ (l : List (LimitKind × ℕ)). NonePassesUpto (ideal_over p weights relations) l job.bound) same none)
