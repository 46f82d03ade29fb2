-- What make answers is an outcome of its job.
use Rattle.std.proofs.Common.{◌≡◌, ◌+◌, ℕ, List, [], length, refl, sym, ap, arith, subst}
use Rattle.std.specs.Prelude.{slice_index}
use Rattle.words.specs.Names.{Letters}
use Rattle.free_poly.specs.declared.term.Term.{Term}
use Rattle.ideal_laws.specs.Ideal.{ideal_over}
use Rattle.ideal_laws.specs.declared.limits.LimitKind.{LimitKind}
use Rattle.ideal_laws.specs.declared.limits.LimitKind.TheVariants.{NormalWords}
use Rattle.ideal_laws.specs.Dimension.{IsHilbertCoefficient}
use Rattle.ideal_laws.specs.Engine.{Elements, IsReducedUpto}
use Rattle.ideal_laws.specs.Kept.{IsKept}
use Rattle.ideal_laws.specs.Laws.{IsSetting}
use Rattle.ideal_laws.specs.Limits.{standard_limits}
use Rattle.ideal_laws.specs.Quantities.{IsFirstRefused, NonePassesUpto}
use Rattle.poly_writer.specs.Texts.{series_text}
use Rattle.hilbert.specs.Series.{AreCounts, CountsCoefficients, IsFirstLarge}
use Rattle.command_words.specs.declared.job.Job.{Job}
use Rattle.job_steps.specs.declared.answer.Answer.{Answer}
use Rattle.job_steps.specs.declared.status.Status.TheVariants.{Done, Limit}
use Rattle.job_steps.specs.Printing.{IsCutSeries, IsWholeSeries}
use Rattle.job_steps.specs.Progress.{crowded, refused}
use Rattle.job_steps.specs.Statuses.{IsTaskStatus}
use Rattle.job_steps.proofs.Counted.{coefficient, cut_from_large, whole_from_counts}
use Rattle.bergman_cli.specs.Engines.{limits_of}
use Rattle.bergman_cli.specs.Make.{IsMakeOutcome, IsSummary, make_task, summary_text}
use Rattle.bergman_cli.proofs.OwnLimits.{own_none, own_refused}

module _ (job : Job) (letters : Letters) (relations : List (List Term)) where
  -- an answer at a limit has no text
  made_limit : (answer : Answer) (kind : LimitKind) (d value : ℕ) → answer ≡ record { status = Limit kind d value; text = [] } →
      IsTaskStatus (make_task job letters relations) (Limit kind d value)
      → IsMakeOutcome job letters relations answer.status answer.text
  made_limit answer kind d value is due = subst (λ (a : Answer). IsMakeOutcome job letters relations a.status a.text) (sym is) (due, refl)

  module _ (limits : List (LimitKind × ℕ)) (same : limits ≡ limits_of job.engine) (p : ℕ) (field : p ≡ job.modulus) where
    -- a limit of the engine
    pub refused_outcome : (answer : Answer) (kind : LimitKind) (d value : ℕ) → answer ≡ record { status = Limit kind d value; text = [] } →
        IsFirstRefused (ideal_over p letters.weights relations) limits job.bound kind d value
        → IsMakeOutcome job letters relations answer.status answer.text
    refused_outcome answer kind d value is first =
        let own = own_refused job letters.weights relations limits same p field kind d value first in
        made_limit answer kind d value is (refused kind d value, own, (refl, refl, refl))

    module _ (law : CountsCoefficients) (st : IsSetting (ideal_over p letters.weights relations)) (basis : Elements)
        (weights : basis.weights ≡ letters.weights) (kept : IsKept basis) (reduced : IsReducedUpto p relations basis)
        (done : basis.done ≡ job.bound) (none : NonePassesUpto (ideal_over p letters.weights relations) limits job.bound) where
      job_none : NonePassesUpto (ideal_over job.modulus letters.weights relations) (limits_of job.engine) job.bound
      job_none = own_none job letters.weights relations limits same p field none

      -- too many normal words
      pub crowded_outcome : (answer : Answer) (d value : ℕ) (below : List ℕ) →
          answer ≡ record { status = Limit NormalWords d value; text = [] } →
          IsFirstLarge basis.weights basis.elements standard_limits.normal_words job.bound d value below
          → IsMakeOutcome job letters relations answer.status answer.text
      crowded_outcome answer d value below is large =
          let cut = cut_from_large law p letters relations basis st weights kept reduced standard_limits.normal_words (omega arith)
          job.bound d value below (sym done) large in
          let own = subst (λ (m : ℕ). IsCutSeries m letters relations standard_limits.normal_words basis.done d value (series_text below)) field cut in
          made_limit answer NormalWords d value is (crowded d value, (job_none, refl, omega (arith, own.upto, done), own.large), (refl, refl, refl))

      -- the summary of all degrees
      pub summary_outcome : (answer : Answer) (numbers : List ℕ) (last : ℕ) (text : List ℕ) →
          AreCounts basis.weights basis.elements standard_limits.normal_words (job.bound + 1) numbers → last ≡ slice_index numbers job.bound
          → answer ≡ record { status = Done; text = text } → text ≡ summary_text job.number (length relations) basis.elements job.bound last
          → IsMakeOutcome job letters relations answer.status answer.text
      summary_outcome answer numbers last text counts at is printed =
          let series = whole_from_counts law p letters relations basis st weights kept reduced standard_limits.normal_words job.bound
          numbers (sym done) counts in
          let own = subst (λ (m : ℕ). IsWholeSeries m letters relations standard_limits.normal_words basis.done (series_text numbers)) field series in
          let number = coefficient law p letters relations basis st weights kept reduced standard_limits.normal_words job.bound
          (slice_index numbers job.bound) (omega (arith, done)) (counts.each job.bound (omega arith)) in
          let summary : IsSummary job letters relations text = record {
            basis = basis;
            is_basis = record {
              kept = kept;
              next = ap (λ (n : ℕ). n + 1) done;
              same_weights = weights;
              reduced = subst (λ (m : ℕ). IsReducedUpto m relations basis) field reduced;
            };
            coefficient = last;
            is_coefficient = subst (λ (n : ℕ). IsHilbertCoefficient (ideal_over job.modulus letters.weights relations) job.bound n) (sym at)
                (subst (λ (m : ℕ). IsHilbertCoefficient (ideal_over m letters.weights relations) job.bound (slice_index numbers job.bound)) field
                number);
            printed = printed;
          } in
          subst (λ (a : Answer). IsMakeOutcome job letters relations a.status a.text) (sym is)
          ((job_none, λ _ e below. own.small e (omega (arith, below, done))), summary)
