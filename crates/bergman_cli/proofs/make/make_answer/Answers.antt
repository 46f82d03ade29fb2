use Rattle.std.proofs.Common.{◌+◌, ℕ, List, length, Err, refl, ap, arith, subst, ◌∙◌}
use Rattle.std.proofs.lemmas.Grind.{get_or_default_zero}
use Rattle.free_poly.specs.declared.term.Term.{Term}
use Rattle.ideal_laws.specs.declared.limits.Limits.{Limits}
use Rattle.hilbert.specs.Series.{AreCounts, IsFirstLarge}
use Rattle.bergman_cli.specs.Make.{summary_text}
use Rattle.job_steps.proofs.FactorFree.{factor_free_upto}
use Rattle.job_steps.proofs.Stopped.{stopped_is}
use Rattle.bergman_cli.proofs.Made.{crowded_outcome, refused_outcome, summary_outcome}
use Rattle.bergman_cli.proofs.make.make_answer.Goals as goal

pub returns-in-Err : goal.returns-in-Err
returns-in-Err g c = stopped_is _ c.in-Err.fault c.stopped.result c.stopped.ensures
    (λ kind d value is. refused_outcome c.args.job.now c.args.given.now.alphabet c.args.given.now.relations _ c.requires.limits c.args.field.now
    c.requires.modulus _ kind d value refl (c.in-Err.ensures.limit kind d value (ap Err is)))

pub series-requires-clause-factor_free : goal.series-requires-clause-factor_free
series-requires-clause-factor_free g c = factor_free_upto c.lower_law.ensures.factors c.args.field.now c.args.given.now c.in-Ok.basis
    c.setting_law.ensures c.in-Ok.ensures.kept c.in-Ok.ensures.weights c.in-Ok.ensures.reduced

pub returns-in-Ok-series : goal.returns-in-Ok-series
returns-in-Ok-series g c =
    let basis = c.in-Ok.basis in
    let run = c.in-Ok.ensures in
    let numbers = c.in-Ok-series.numbers.items in
    let counts = subst (λ (limit : ℕ). AreCounts basis.weights basis.elements limit (c.args.job.now.bound + 1) numbers)
    (ap (λ (l : Limits). l.normal_words) c.standard.ensures.value) c.in-Ok-series.ensures.counts in
    summary_outcome c.args.job.now c.args.given.now.alphabet c.args.given.now.relations _ c.requires.limits c.args.field.now
    c.requires.modulus c.count_law.ensures c.setting_law.ensures
    basis run.weights run.kept run.reduced run.done run.within c.done.result numbers c.index-coefficient.result.now _ counts
    (c.index-coefficient.ensures ∙ get_or_default_zero numbers c.args.job.now.bound c.index-coefficient.result.now (omega (arith, counts.size))) c.done.ensures
    (c.in_ok-text-in-Ok-series.ensures ∙ ap (λ (rs : List (List Term)). summary_text c.args.job.now.number (length rs)
    basis.elements c.args.job.now.bound c.index-coefficient.result.now) c.as_slice-relations.ensures)

pub returns-in-Err-Limit : goal.returns-in-Err-Limit
returns-in-Err-Limit g c =
    let basis = c.in-Ok.basis in
    let run = c.in-Ok.ensures in
    let at = c.in-Err-Limit in
    let large = subst (λ (limit : ℕ). IsFirstLarge basis.weights basis.elements limit c.args.job.now.bound at.degree at.value at.field-0-2)
    (ap (λ (l : Limits). l.normal_words) c.standard.ensures.value)
    (at.ensures.limit at.degree at.value at.field-0-2 (ap Err at.field-0-is)) in
    crowded_outcome c.args.job.now c.args.given.now.alphabet c.args.given.now.relations _ c.requires.limits c.args.field.now
    c.requires.modulus c.count_law.ensures c.setting_law.ensures
    basis run.weights run.kept run.reduced run.done run.within c.limit.result _ _ _ c.limit.ensures large
