use Rattle.std.proofs.Common.{◌+◌, ℕ, Err, refl, ap}
use Rattle.job_steps.proofs.FactorFree.{factor_free_upto}
use Rattle.job_steps.proofs.Stopped.{stopped_is}
use Rattle.bergman_cli.proofs.Chained.{many_chains, refused_chains, told_chains}
use Rattle.bergman_cli.proofs.chains.chains_answer.Goals as goal

pub returns-in-Err : goal.returns-in-Err
returns-in-Err g c = stopped_is _ c.in-Err.fault c.stopped.result c.stopped.ensures
    (λ kind d value is. refused_chains c.args.job.now c.args.given.now.alphabet c.args.given.now.relations _ c.requires.limits c.args.field.now
    c.requires.modulus _ kind d value refl (c.in-Err.ensures.limit kind d value (ap Err is)))

pub chain_lines-requires-clause-factor_free : goal.chain_lines-requires-clause-factor_free
chain_lines-requires-clause-factor_free g c = factor_free_upto c.lower_law.ensures.factors c.args.field.now c.args.given.now c.in-Ok.basis
    c.setting_law.ensures c.in-Ok.ensures.kept c.in-Ok.ensures.weights c.in-Ok.ensures.reduced

pub returns-in-Ok-chain_lines : goal.returns-in-Ok-chain_lines
returns-in-Ok-chain_lines g c =
    let run = c.in-Ok.ensures in
    told_chains c.args.job.now c.args.given.now.alphabet c.args.given.now.relations _ c.requires.limits c.args.field.now c.requires.modulus
    c.setting_law.ensures
    c.in-Ok.basis run.weights run.kept run.reduced run.done run.within c.done.result c.in-Ok-chain_lines.text.items c.done.ensures
    (c.in-Ok-chain_lines.ensures.printed c.args.field.now c.args.given.now.relations)

pub returns-in-Err-TooMany : goal.returns-in-Err-TooMany
returns-in-Err-TooMany g c =
    let run = c.in-Ok.ensures in
    let at = c.in-Err-TooMany in
    many_chains c.args.job.now c.args.given.now.alphabet c.args.given.now.relations _ c.requires.limits c.args.field.now c.requires.modulus
    c.setting_law.ensures c.in-Ok.basis run.weights run.kept run.reduced run.done run.within c.chain_laws.ensures.minimal c.lower_law.ensures.lower
    c.without_text.result _ at.degree _ c.without_text.ensures refl
    (ap (λ (n : ℕ). n + 1) c.from-value.ensures) (at.ensures.many at.degree (ap Err at.field-0-is))
