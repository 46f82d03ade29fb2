use Rattle.std.proofs.Common.{◌+◌, ◌-◌, ◌≤◌, [], All, Err, List, ap, arith, length, subst, sym, take, ◌∙◌}
use Rattle.std.proofs.lemmas.List.Elements.{All-take}
use Rattle.std.proofs.KnownBytes.{Appends-nil}
use Rattle.words.specs.Names.{Letters}
use Rattle.free_poly.specs.declared.term.Term.{Term}
use Rattle.free_poly.specs.Terms.{HasResidues}
use Rattle.ideal_laws.specs.Laws.{IsRelation}
use Rattle.job_steps.specs.declared.status.Status.{Status}
use Rattle.job_steps.specs.declared.status.Status.TheVariants.{Limit}
use Rattle.job_steps.specs.States.{state_of}
use Rattle.job_steps.proofs.Statuses.{parts_among}
use Rattle.bergman_cli.specs.Normal.{HasNone, IsAbove, IsFirstPlace, IsNormalOutcome}
use Rattle.bergman_cli.proofs.NormalOutcomes.{All-part, above_outcome, answered_outcome, questions-part, stopped_outcome}
use Rattle.bergman_cli.proofs.normal.run_normal.Goals as goal

pub returns-in-Some-clause-end : goal.returns-in-Some-clause-end
returns-in-Some-clause-end g c =
    let job = c.args.job.now in
    let given = c.args.given.now in
    let same = c.as_slice-relations.ensures in
    let first = subst (λ (fs : List (List Term)). IsFirstPlace (IsAbove given.alphabet.weights job.bound) fs c.in-Some.place)
    (questions-part job given.relations c.as_slice-relations.result.now same) c.in-Some.ensures in (
      [],
      above_outcome job given.alphabet given.relations _ c.in-Some.place (ap (λ (rs : List (List Term)). length rs - job.ask + c.in-Some.place + 1) same)
          (omega (arith, c.if-count-job.false, ap length same)) first,
      Appends-nil (g.K.Sink.held c.args.out.now),
    )

pub setting_law-requires-2 : goal.setting_law-requires-2
setting_law-requires-2 g c =
    let p = c.args.field.now in
    subst (λ (rs : List (List Term)). All (HasResidues p) rs) (sym c.in-Ok.ensures.relations)
    (All-take (HasResidues p) (length c.as_slice-relations.result.now - c.args.job.now.ask) c.args.given.now.relations
    c.requires.residues)

pub returns-in-Err-Limit-clause-end : goal.returns-in-Err-Limit-clause-end
returns-in-Err-Limit-clause-end g c =
    let job = c.args.job.now in
    let given = c.args.given.now in
    let same = c.as_slice-relations.ensures in
    let ideal = c.in-Ok.ideal in
    let none = subst (λ (fs : List (List Term)). HasNone (IsAbove given.alphabet.weights job.bound) fs)
    (questions-part job given.relations c.as_slice-relations.result.now same) c.in_default.ensures in
    let enough : job.ask ≤ length given.relations = omega (arith, c.if-count-job.false, ap length same) in
    let part = c.in-Ok.ensures.relations ∙ ap (λ (rs : List (List Term)). take (length rs - job.ask) given.relations) same in
    let at = c.in-Err-Limit in (
      [],
      subst (λ (status : Status). IsNormalOutcome job given.alphabet given.relations status [])
          (λ j. Limit (sym at.kind-is j) (sym at.degree-is j) (sym at.value-is j))
          (stopped_outcome job given.alphabet given.relations (enough, none) _ c.requires.limits c.args.field.now c.requires.modulus ideal.alphabet
          c.in-Ok.ensures.alphabet ideal.relations part at.kind at.degree at.value
          (at.ensures.limit at.kind at.degree at.value (ap Err at.field-0-is))),
      Appends-nil (g.K.Sink.held c.args.out.now),
    )

pub write_answers-requires-clause-elements : goal.write_answers-requires-clause-elements
write_answers-requires-clause-elements g c =
    let rs = c.as_slice-relations.result.now in
    let given = c.args.given.now in
    let p = c.args.field.now in
    All-part (IsRelation p c.in-Ok.ideal.alphabet.weights) given.relations rs (length rs - (length rs - c.args.job.now.ask))
    (length rs - c.args.job.now.ask) c.as_slice-relations.ensures
    (subst (λ (l : Letters). All (IsRelation p l.weights) given.relations) (sym c.in-Ok.ensures.alphabet)
    c.setting_law.ensures.are_relations)

pub returns-in-Ok-run-clause-end : goal.returns-in-Ok-run-clause-end
returns-in-Ok-run-clause-end g c =
    let job = c.args.job.now in
    let given = c.args.given.now in
    let same = c.as_slice-relations.ensures in
    let ideal = c.in-Ok.ideal in
    let asked = questions-part job given.relations c.as_slice-relations.result.now same in
    let none = subst (λ (fs : List (List Term)). HasNone (IsAbove given.alphabet.weights job.bound) fs) asked c.in_default.ensures in
    let enough : job.ask ≤ length given.relations = omega (arith, c.if-count-job.false, ap length same) in
    let part = c.in-Ok.ensures.relations ∙ ap (λ (rs : List (List Term)). take (length rs - job.ask) given.relations) same in
    parts_among _ (IsNormalOutcome job given.alphabet given.relations)
    (λ status text h. answered_outcome job given.alphabet given.relations (enough, none) _ c.requires.limits c.args.field.now c.requires.modulus
    ideal.alphabet c.in-Ok.ensures.alphabet ideal.relations part c.in-Ok-run.ensures.within _ asked status text h)
    (state_of g.K.Sink c.args.out.now) (state_of g.K.Sink c.write_answers.new.out) c.write_answers.result c.write_answers.ensures.end
