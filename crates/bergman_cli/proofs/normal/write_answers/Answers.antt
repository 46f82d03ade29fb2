use Rattle.std.proofs.Common.{◌≡◌, ◌∙◌, ◌+◌, ◌<◌, ◌≤◌, [], ℕ, Err, List, ap, arith, inl, inr, subst, sym}
use Rattle.std.specs.Prelude.{slice_index_or}
use Rattle.std.proofs.lemmas.Bool.{cases_lt}
use Rattle.std.proofs.lemmas.List.{get_or_default}
use Rattle.ideal_laws.specs.Kept.{lead_degree}
use Rattle.job_steps.specs.declared.status.Status.TheVariants.{Products}
use Rattle.job_steps.specs.Gains.{GainsAll, GainsPart}
use Rattle.job_steps.specs.States.{state_of}
use Rattle.job_steps.proofs.FactorFree.{factor_free_upto}
use Rattle.job_steps.proofs.Gaining.{all_behind}
use Rattle.bergman_cli.specs.Normal.{HasManyTriples, most_triples}
use Rattle.bergman_cli.proofs.Answering.{begun, cut_off, next_answer, some_written}
use Rattle.bergman_cli.proofs.normal.write_answers.Goals as goal

pub index_of-requires : goal.index_of-requires
index_of-requires g c = factor_free_upto c.lower_law.ensures.factors c.args.field.now c.args.ideal.now c.args.basis.now c.setting_law.ensures
    c.done-done.ensures.kept c.requires.weights c.requires.reduced

small_degree : (n done degree : ℕ) → n ≡ degree → (done < n → ⊥) → done ≤ 64 → degree ≤ 64
small_degree n done degree same within few = elim (cases_lt done n) [
  | inl less ↦ absurd (within less)
  | inr le ↦ omega (arith, same, le, few)
]

pub returns-in-Err-TooMany-clause-end : goal.returns-in-Err-TooMany-clause-end
returns-in-Err-TooMany-clause-end g c =
    let weights = c.args.ideal.now.alphabet.weights in
    let relations = c.args.ideal.now.relations in
    let questions = c.args.questions.now in
    let place = c.loop-place.place in
    let f = c.index-questions-place.result in
    let written = c.loop-place.invariant.written in
    let at : f ≡ slice_index_or questions place [] = c.index-questions-place.is ∙ get_or_default questions place f [] c.loop-place-test.true in
    let many : HasManyTriples weights relations f = subst (λ (ws : List ℕ). HasManyTriples ws relations f) c.requires.weights
    (c.in-Err-TooMany.ensures.too_many (ap Err c.in-Err-TooMany.field-0-is)) in
    let small = small_degree (lead_degree weights (slice_index_or questions place [])) c.args.basis.now.done (lead_degree weights f)
    (ap (lead_degree weights) (sym at)) (c.requires.within place c.loop-place-test.true) c.done-done.ensures.kept.degrees in
    let degree : c.lead_degree_within.result ≡ lead_degree weights f = omega (arith, c.lead_degree_within.ensures, small) in
    let value : c.from.result ≡ most_triples = omega (arith, c.from.ensures) in (
      written.0,
      inl (
        place,
        record { within = c.loop-place-test.true; here = subst (HasManyTriples weights relations) at many; before = c.loop-place.invariant.none },
        (λ j. Products ((degree ∙ ap (lead_degree weights) at) j) (value j + 1)),
        written.1,
      ),
      written.2.appended,
    )

pub returns-in-Err-NoMemory-clause-end : goal.returns-in-Err-NoMemory-clause-end
returns-in-Err-NoMemory-clause-end g c = inr (some_written c.args.field.now c.args.ideal.now.alphabet c.args.ideal.now.relations c.args.questions.now _ _
    c.setting_law.ensures c.normal_form_laws.ensures.one c.normal_form_laws.ensures.products c.requires.elements c.loop-place.place
    (omega (arith, c.loop-place-test.true)) c.loop-place.invariant.none c.loop-place.invariant.written)

pub returns-in_default-answer_text-clause-end : goal.returns-in_default-answer_text-clause-end
returns-in_default-answer_text-clause-end g c = inr (some_written c.args.field.now c.args.ideal.now.alphabet c.args.ideal.now.relations c.args.questions.now _ _
    c.setting_law.ensures c.normal_form_laws.ensures.one c.normal_form_laws.ensures.products c.requires.elements c.loop-place.place
    (omega (arith, c.loop-place-test.true)) c.loop-place.invariant.none c.loop-place.invariant.written)

pub returns-in-Err-clause-end : goal.returns-in-Err-clause-end
returns-in-Err-clause-end g c =
    let ideal = c.args.ideal.now in
    let written = c.loop-place.invariant.written in
    let laws = c.normal_form_laws.ensures in
    let answered = c.in-Ok-normal_form.ensures in
    let first = next_answer c.args.field.now ideal.alphabet ideal.relations c.args.questions.now _ c.requires.weights c.loop-place.place written.0 _
    c.index-questions-place.is c.loop-place-test.true (record { none = c.loop-place.invariant.none; answers = written.1 })
    c.in-Ok-normal_form.certificate answered.certificate answered.within in
    let failed = c.in-Err.ensures in
    let part = subst (GainsPart (state_of g.K.Sink c.loop-place.out) (state_of g.K.Sink c.write_all.new.sink))
    (c.as_slice.ensures.value ∙ c.in-Ok-answer_text.ensures)
    (record { gained = failed.part.0; appended = failed.part.2; cut_short = failed.part.1; no_room = failed.taken }) in
    cut_off c.args.field.now ideal.alphabet ideal.relations c.args.questions.now _ _ written.0 written.2 (state_of g.K.Sink c.write_all.new.sink) _
    failed.cause.failed part
    (begun c.args.field.now ideal.alphabet ideal.relations c.args.questions.now c.setting_law.ensures laws.one laws.products c.requires.elements
    (c.loop-place.place + 1) (omega (arith, c.loop-place-test.true)) _ first)

pub loop-place-preserved : goal.loop-place-preserved
loop-place-preserved g c =
    let ideal = c.args.ideal.now in
    let written = c.loop-place.invariant.written in
    let answered = c.in-Ok-normal_form.ensures in
    let first = next_answer c.args.field.now ideal.alphabet ideal.relations c.args.questions.now _ c.requires.weights c.loop-place.place written.0 _
    c.index-questions-place.is c.loop-place-test.true (record { none = c.loop-place.invariant.none; answers = written.1 })
    c.in-Ok-normal_form.certificate answered.certificate answered.within in
    let gained = c.in-Ok-write_all.ensures in
    let all = subst (GainsAll (state_of g.K.Sink c.loop-place.out) (state_of g.K.Sink c.write_all.new.sink))
    (c.as_slice.ensures.value ∙ c.in-Ok-answer_text.ensures)
    (record { appended = gained.all; falls = gained.room; kept = gained.cause.kept }) in
    record { none = first.none; written = (_, first.answers, all_behind _ _ _ written.0 _ written.2 all) }
