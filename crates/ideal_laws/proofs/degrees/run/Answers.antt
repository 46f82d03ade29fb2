use Rattle.std.proofs.Common.{◌≡◌, ◌+◌, ℕ, List, Err, Result, subst, sym, ap, ◌∙◌, arith}
use Rattle.std.proofs.lemmas.Result.{err_from_is_err_and}
use Rattle.ideal_laws.specs.Ideal.{ideal_of}
use Rattle.ideal_laws.specs.declared.limits.LimitKind.{LimitKind}
use Rattle.ideal_laws.specs.Quantities.{IsFirstPassing, IsQuantity, NonePasses}
use Rattle.ideal_laws.proofs.Refused.{refused_next, upto_next}
use Rattle.ideal_laws.proofs.degrees.run.Goals as goal

one_fault : {T E : Type 0} (r : Result T E) (a b : E) → r ≡ Err a → r ≡ Err b → a ≡ b
one_fault r a b h k = cc

pub returns-in_err-_account-clause-limit : goal.returns-in_err-_account-clause-limit
returns-in_err-_account-clause-limit g c = λ kind degree value e.
    let p = err_from_is_err_and c.from_residual.result c.from_residual.ensures.1 in
    let inv = c.loop-degree.invariant in
    let basis = c.loop-degree.basis in
    let kinds = g.E.DegreeEngine.kinds c.args.engine.now in
    let h = c.in_err-_account.ensures.limit kind degree value (ap Err (sym p.2 ∙ one_fault c.from_residual.result _ _ p.1 e)) in
    let Q : List (LimitKind × ℕ) → Type 0 = λ limits. (degree ≡ basis.done + 1)
    × IsFirstPassing (IsQuantity (ideal_of c.args.field.now c.args.presentation.now) basis (basis.done + 1)) limits kind
    value in
    refused_next (ideal_of c.args.field.now c.args.presentation.now) kinds basis inv.2 inv.1 inv.3
    c.loop-degree._degree c.args.bound inv.0 (omega (arith, c.loop-degree-test.true)) inv.4
    kind degree value (subst Q inv.5 h)

pub loop-degree-preserved : goal.loop-degree-preserved
loop-degree-preserved g c =
    let inv = c.loop-degree.invariant in
    let basis = c.loop-degree.basis in
    let kinds = g.E.DegreeEngine.kinds c.args.engine.now in
    let next = c.in_ok-_account.ensures in
    let Q : List (LimitKind × ℕ) → Type 0 = λ limits. NonePasses (IsQuantity (ideal_of c.args.field.now c.args.presentation.now) basis
    (basis.done + 1)) limits in (
      next.done ∙ ap (λ (n : ℕ). n + 1) inv.0,
      next.weights ∙ inv.1,
      next.kept.1,
      next.reduced,
      upto_next (ideal_of c.args.field.now c.args.presentation.now) kinds basis inv.2 inv.1 inv.3
          c.loop-degree._degree inv.0 inv.4 (subst Q inv.5 next.within),
      next.kinds ∙ inv.5,
      λ p rs b e a. (λ h. (inv.6 p rs b e a).0 ((next.accounts p rs b e a).0 h), λ h. (next.accounts p rs b e a).1 ((inv.6 p rs b e a).1 h)),
    )

pub returns-clause-within : goal.returns-clause-within
returns-clause-within g c = λ e from le. c.loop-degree.invariant.4 e from (omega (arith, le, c.loop-degree-test.false))
