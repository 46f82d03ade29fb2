use Rattle.std.proofs.Common.{Err, refl, ap, lit<, inl, inr}
use Rattle.ideal_laws.specs.declared.limits.Limits.{Limits}
use Rattle.ideal_laws.specs.Limits.{standard_limits}
use Rattle.poly_writer.specs.Texts.{series_text}
use Rattle.job_steps.specs.States.{state_of}
use Rattle.job_steps.proofs.Counted.{cut_told, undone_from_unwritten, whole_told}
use Rattle.job_steps.proofs.FactorFree.{factor_free_upto}
use Rattle.job_steps.proofs.print.print_series.Goals as goal

pub series-requires-clause-factor_free : goal.series-requires-clause-factor_free
series-requires-clause-factor_free g c = factor_free_upto c.lower_law.ensures.factors c.args.field.now c.args.given.now c.args.basis.now
    c.setting_law.ensures c.done.ensures.kept c.requires.weights c.requires.reduced

pub returns-in-Ok-write_series-clause-printed : goal.returns-in-Ok-write_series-clause-printed
returns-in-Ok-write_series-clause-printed g c =
    let series = whole_told c.count_law.ensures c.args.field.now c.args.given.now.alphabet c.args.given.now.relations c.args.basis.now
    c.setting_law.ensures c.requires.weights c.done.ensures.kept c.requires.reduced standard_limits.normal_words _
    (ap (λ (l : Limits). l.normal_words) c.standard-limits.ensures.value) c.done.result _ _ c.done.ensures.value
    c.as_slice.ensures.value c.in-Ok.ensures.counts in
    (series_text c.as_slice.result.now, series, c.in-Ok-write_series.ensures.written)

pub returns-in-Ok-clause-undone : goal.returns-in-Ok-clause-undone
returns-in-Ok-clause-undone g c =
    let series = whole_told c.count_law.ensures c.args.field.now c.args.given.now.alphabet c.args.given.now.relations c.args.basis.now
    c.setting_law.ensures c.requires.weights c.done.ensures.kept c.requires.reduced standard_limits.normal_words _
    (ap (λ (l : Limits). l.normal_words) c.standard-limits.ensures.value) c.done.result _ _ c.done.ensures.value
    c.as_slice.ensures.value c.in-Ok.ensures.counts in
    undone_from_unwritten c.count_law.ensures c.args.field.now c.args.given.now.alphabet c.args.given.now.relations c.args.basis.now
    c.setting_law.ensures c.requires.weights c.done.ensures.kept c.requires.reduced standard_limits.normal_words
    (state_of g.K.Sink c.args.out.now) (state_of g.K.Sink c.write_series.new.out) _ c.in-Err.fault (inl series) c.in-Err.ensures.unwritten

pub returns-in-Ok-write_series-2-clause-undone : goal.returns-in-Ok-write_series-2-clause-undone
returns-in-Ok-write_series-2-clause-undone g c =
    let at = c.in-Err-Limit in
    let series = cut_told c.count_law.ensures c.args.field.now c.args.given.now.alphabet c.args.given.now.relations c.args.basis.now
    c.setting_law.ensures c.requires.weights c.done.ensures.kept c.requires.reduced standard_limits.normal_words _
    (ap (λ (l : Limits). l.normal_words) c.standard-limits.ensures.value) (lit< tt) c.done.result at.degree at.value at.below _ c.done.ensures.value
    c.as_slice-in-Err-Limit.ensures (at.ensures.limit at.degree at.value at.below (ap Err at.field-0-is)) in
    (refl, (series_text c.as_slice-in-Err-Limit.result.now, series, c.in-Ok-write_series-2.ensures.written.appended))

pub returns-in-Err-Limit-clause-undone : goal.returns-in-Err-Limit-clause-undone
returns-in-Err-Limit-clause-undone g c =
    let at = c.in-Err-Limit in
    let series = cut_told c.count_law.ensures c.args.field.now c.args.given.now.alphabet c.args.given.now.relations c.args.basis.now
    c.setting_law.ensures c.requires.weights c.done.ensures.kept c.requires.reduced standard_limits.normal_words _
    (ap (λ (l : Limits). l.normal_words) c.standard-limits.ensures.value) (lit< tt) c.done.result at.degree at.value at.below _ c.done.ensures.value
    c.as_slice-in-Err-Limit.ensures (at.ensures.limit at.degree at.value at.below (ap Err at.field-0-is)) in
    undone_from_unwritten c.count_law.ensures c.args.field.now c.args.given.now.alphabet c.args.given.now.relations c.args.basis.now
    c.setting_law.ensures c.requires.weights c.done.ensures.kept c.requires.reduced standard_limits.normal_words
    (state_of g.K.Sink c.args.out.now) (state_of g.K.Sink c.write_series-in-Err-Limit.new.out) _ c.in-Err-write_series.fault
    (inr (at.degree, at.value, series)) c.in-Err-write_series.ensures.unwritten
