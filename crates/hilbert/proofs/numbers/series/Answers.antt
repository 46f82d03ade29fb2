use Rattle.std.proofs.Common.{◌+◌, ℕ, List, sym, subst, arith}
use Rattle.std.proofs.lemmas.Result.{IfOk-weaker}
use Rattle.hilbert.specs.Series.{AreCounts, IsFirstLarge}
use Rattle.hilbert.proofs.Coefficients.{count_coefficient}
use Rattle.hilbert.proofs.Indexed.{indexes_leads}
use Rattle.hilbert.proofs.numbers.series.Goals as goal

pub numbers_upto-requires-clause-some : goal.numbers_upto-requires-clause-some
numbers_upto-requires-clause-some c = (indexes_leads c.args.basis.now c.done-done.ensures.kept c.in_ok-index.index c.in_ok-index.ensures).some

pub returns-clause-counts : goal.returns-clause-counts
returns-clause-counts c =
    IfOk-weaker c.numbers_upto.result _ _
    (λ numbers h. subst (λ (ws : List ℕ). AreCounts ws c.args.basis.now.elements c.args.limits.now.normal_words (c.args.bound + 1)
    numbers.items) (sym c.requires.weights) (h c.args.basis.now.elements
    (indexes_leads c.args.basis.now c.done-done.ensures.kept c.in_ok-index.index c.in_ok-index.ensures)))
    c.numbers_upto.ensures.counts

pub returns-clause-coefficients : goal.returns-clause-coefficients
returns-clause-coefficients c =
    IfOk-weaker c.numbers_upto.result _ _
    (λ numbers counts p relations st upto d le.
    count_coefficient p relations c.args.basis.now st c.done-done.ensures.kept upto d _ (omega (arith, le, c.requires.done))
    (counts.each d (omega (arith, le)))) (returns-clause-counts c)

pub returns-clause-limit : goal.returns-clause-limit
returns-clause-limit c = λ degree value below e.
    subst (λ (ws : List ℕ). IsFirstLarge ws c.args.basis.now.elements c.args.limits.now.normal_words c.args.bound degree value below) (sym c.requires.weights)
    (c.numbers_upto.ensures.limit degree value below e c.args.basis.now.elements
    (indexes_leads c.args.basis.now c.done-done.ensures.kept c.in_ok-index.index c.in_ok-index.ensures))
