-- The task of a job is posed: each engine has a limit that bounds the elements of a degree.
use Rattle.std.proofs.Common.{◌≤◌, ℕ, List, refl, arith}
use Rattle.std.specs.List.{Contains}
use Rattle.words.specs.Names.{IsAlphabet, Letters}
use Rattle.free_poly.specs.declared.term.Term.{Term}
use Rattle.ideal_laws.specs.Ideal.{ideal_over}
use Rattle.ideal_laws.specs.declared.limits.LimitKind.{LimitKind}
use Rattle.ideal_laws.specs.declared.limits.LimitKind.TheVariants.{PlainWords, Terms}
use Rattle.ideal_laws.specs.Laws.{IsSetting}
use Rattle.command_words.specs.declared.job.EngineKind.{EngineKind}
use Rattle.command_words.specs.declared.job.EngineKind.TheVariants.{Plain}
use Rattle.command_words.specs.declared.job.Job.{Job}
use Rattle.job_steps.specs.Reaches.{BoundsElements, IsPosed}
use Rattle.job_steps.proofs.OneOutcome.{has_one_outcome}
use Rattle.bergman_cli.specs.Engines.{limits_of}
use Rattle.bergman_cli.specs.Gb.{HasOneGbOutcome, gb_task}

bounding : (engine : EngineKind) → (limit : LimitKind × ℕ) × Contains (limits_of engine) limit × BoundsElements limit.0 limit.1
bounding Plain = ((PlainWords, 4096), (0, omega arith, refl), omega arith)
bounding engine = ((Terms, 16777216), (4, omega arith, refl), omega arith)

-- on an alphabet with relations over a field, up to at most 64 degrees, the task of gb is posed
pub gb_posed : (job : Job) (letters : Letters) (relations : List (List Term)) → job.bound ≤ 64 → IsAlphabet letters →
    IsSetting (ideal_over job.modulus letters.weights relations) → IsPosed (gb_task job letters relations)
gb_posed job letters relations degrees alphabet st =
    let b = bounding job.engine in
    record {
      setting = st;
      some = alphabet.some;
      letters = alphabet.few;
      degrees = degrees;
      limit = b.0;
      among = b.1;
      bounds = b.2;
    }

-- so each job with gb has exactly one status with its text
pub has_one_gb_outcome : HasOneGbOutcome
has_one_gb_outcome job letters relations sound alphabet st =
    has_one_outcome (gb_task job letters relations) (gb_posed job letters relations sound.few_degrees alphabet st)
