use Rattle.std.proofs.Common.{◌≡◌, ◌+◌, ◌<◌, ◌%◌, ℕ, length, arith, rules, sym, ap, ◌∙◌}
use Rattle.std.specs.declared.cmp.Ordering.TheVariants.{Less, Equal, Greater}
use Rattle.std.proofs.lemmas.List.{nil_from_length}
use Rattle.cofactors.specs.Rows.{firsts_cmp}
use Rattle.cofactors.proofs.FactorMerges.{Merges-all, first_of, step_both, step_first, step_second}
use Rattle.cofactors.proofs.factors.plus_times.Goals as goal

pub loop-first_left-preserved-in-Less : goal.loop-first_left-preserved-in-Less
loop-first_left-preserved-in-Less c =
    let order : firsts_cmp c.loop-first_left.first_left.now c.loop-first_left.second_left.now ≡ Less = sym c.order_of_firsts.ensures ∙ c.in-Less.is in
    let some : 0 < length c.loop-first_left.first_left.now + length c.loop-first_left.second_left.now = search rules in
    rw c.in_ok-push_factor-in-Less.ensures (step_first _ _ _ _ _ _ _ some order c.loop-first_left.invariant)

pub loop-first_left-preserved-in-Greater : goal.loop-first_left-preserved-in-Greater
loop-first_left-preserved-in-Greater c =
    let order : firsts_cmp c.loop-first_left.first_left.now c.loop-first_left.second_left.now ≡ Greater = sym c.order_of_firsts.ensures ∙ c.in-Greater.is in
    let some : 0 < c.args.field.now = omega (arith, c.requires.a_residue) in
    rw c.in_ok-push_factor-in-Greater.ensures (step_second _ _ _ _ _ _ _ c.mul-added.result some order c.mul-added.ensures c.loop-first_left.invariant)

pub loop-first_left-preserved : goal.loop-first_left-preserved
loop-first_left-preserved c =
    let order : firsts_cmp c.loop-first_left.first_left.now c.loop-first_left.second_left.now ≡ Equal = sym c.order_of_firsts.ensures ∙ c.in-Equal.is in
    let some : 0 < c.args.field.now = omega (arith, c.requires.a_residue) in
    let total = c.add-total.ensures ∙ ap (λ (n : ℕ). ((first_of c.loop-first_left.first_left.now).residue + n) % c.args.field.now)
    c.mul-added-in-Equal.ensures in
    rw c.in_ok-push_factor-in-Equal.ensures (step_both _ _ _ _ _ _ _ c.add-total.result some order total c.loop-first_left.invariant)

pub returns-clause-sum : goal.returns-clause-sum
returns-clause-sum c =
    let none : length c.loop-first_left.first_left.now + length c.loop-first_left.second_left.now ≡ 0 = search rules in
    let first = nil_from_length c.loop-first_left.first_left.now (omega (arith, none)) in
    let second = nil_from_length c.loop-first_left.second_left.now (omega (arith, none)) in
    let ended = rw (first, second) at c.loop-first_left.invariant in
    Merges-all _ _ _ _ _ ended
