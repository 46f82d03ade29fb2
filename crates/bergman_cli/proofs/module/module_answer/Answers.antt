use Rattle.std.proofs.Common.{◌≤◌, Err, ap, arith, length}
use Rattle.ideal_laws.specs.declared.limits.Limits.{Limits}
use Rattle.bergman_cli.proofs.ModuleOutcomes.{limit_outcome, whole_outcome}
use Rattle.bergman_cli.proofs.module.module_answer.Goals as goal

pub returns-in_ok-text-in-Ok : goal.returns-in_ok-text-in-Ok
returns-in_ok-text-in-Ok g c =
    let job = c.args.job.now in
    let given = c.args.given.now in
    let found = c.in-Ok.ensures in
    let names : job.gens ≤ length given.alphabet.weights = omega (arith, c.if-names-job.false, c.len-names.ensures.count) in
    let standard = ap (λ (l : Limits). l.normal_words) c.standard-limits.ensures.value in
    whole_outcome job given c.done.result names found.shaped _ c.requires.asked.limits c.args.field.now c.requires.asked.modulus c.setting_law.ensures _
    standard _ c.in-Ok.computed.numbers c.done.ensures found.within found.numbers found.few c.in_ok-text-in-Ok.ensures

pub returns-in-Err-Limit : goal.returns-in-Err-Limit
returns-in-Err-Limit g c =
    let job = c.args.job.now in
    let given = c.args.given.now in
    let at = c.in-Err-Limit in
    let names : job.gens ≤ length given.alphabet.weights = omega (arith, c.if-names-job.false, c.len-names.ensures.count) in
    let standard = ap (λ (l : Limits). l.normal_words) c.standard-limits.ensures.value in
    let found = at.ensures.limit at.kind at.degree at.value (ap Err at.field-0-is) in
    limit_outcome job given c.limit.result names found.0 _ c.requires.asked.limits c.args.field.now c.requires.asked.modulus c.setting_law.ensures _
    standard _ _ _ c.limit.ensures found.1
