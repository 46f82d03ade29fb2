use Rattle.std.proofs.Common.{◌+◌, ◌-◌, ℕ, Err, ap, inl, inr, rules, subst, sym}
use Rattle.words.proofs.Faults.{same_fault}
use Rattle.right_modules.specs.Answered.{AreModuleDegrees, AreModuleNumbers, ArePartsUpto}
use Rattle.right_modules.proofs.ModuleAnswers.{below_after, degrees_are, limit_from_fault, shaped_from, tells_outside}
use Rattle.right_modules.proofs.module.module_basis.Goals as goal
use Rattle.ideal_laws.specs.Ideal.{ideal_of}

pub returns-in_err-basis-clause-limit : goal.returns-in_err-basis-clause-limit
returns-in_err-basis-clause-limit g c = λ kind degree value e.
    let free = ap (λ (n : ℕ). n - c.args.gens) c.len.ensures.count in
    let shaped = shaped_from c.args.presentation.now c.args.gens _ _ c.as_slice.ensures free c.in-None.ensures in
    let is = limit_from_fault _ kind degree value (same_fault c.from_residual.result _ _ c.from_residual.ensures.1 e) in
    (shaped, inl (c.in_err-basis.ensures.limit kind degree value (ap Err is)))

pub index_of-requires : goal.index_of-requires
index_of-requires g c =
    let given = c.args.presentation.now in
    let run = c.in_ok-basis.ensures in
    let below = below_after c.args.field.now given c.args.bound c.in_ok-basis.basis run.kept run.done run.weights run.reduced in
    c.lower_law.ensures.factors (ideal_of c.args.field.now c.args.presentation.now) c.setting_law.ensures (c.args.bound + 1) c.in_ok-basis.basis below

pub returns-in_err-numbers-clause-limit : goal.returns-in_err-numbers-clause-limit
returns-in_err-numbers-clause-limit g c = λ kind degree value e.
    let p = c.args.field.now in
    let given = c.args.presentation.now in
    let run = c.in_ok-basis.ensures in
    let below = below_after p given c.args.bound c.in_ok-basis.basis run.kept run.done run.weights run.reduced in
    let free = ap (λ (n : ℕ). n - c.args.gens) c.len.ensures.count in
    let shaped = shaped_from given c.args.gens _ _ c.as_slice.ensures free c.in-None.ensures in
    let is = same_fault c.from_residual-in_err-numbers.result _ _ c.from_residual-in_err-numbers.ensures.1 e in
    let large = c.in_err-numbers.ensures.limit kind degree value (ap Err is) in
    let index = c.in_ok-index in
    let tells = tells_outside p given c.args.gens c.args.bound c.in_ok-basis.basis c.setting_law.ensures shaped below index.index index.ensures in
    (shaped, inr (run.within, large.0, large.1 p tells))

pub returns : goal.returns
returns g c =
    let p = c.args.field.now in
    let given = c.args.presentation.now in
    let run = c.in_ok-basis.ensures in
    let below = below_after p given c.args.bound c.in_ok-basis.basis run.kept run.done run.weights run.reduced in
    let free = ap (λ (n : ℕ). n - c.args.gens) c.len.ensures.count in
    let shaped = shaped_from given c.args.gens _ _ c.as_slice.ensures free c.in-None.ensures in
    let parts = subst (λ (n : ℕ). ArePartsUpto n c.in_ok-basis.basis c.args.bound c.in_ok-degrees.degrees.items) free c.in_ok-degrees.ensures in
    let index = c.in_ok-index in
    let tells = tells_outside p given c.args.gens c.args.bound c.in_ok-basis.basis c.setting_law.ensures shaped below index.index index.ensures in
    record {
      degrees = subst (AreModuleDegrees p given c.args.gens c.args.bound) (sym c.from_vec.ensures)
          (degrees_are p given c.args.gens c.args.bound c.in_ok-basis.basis c.setting_law.ensures shaped below c.in_ok-degrees.degrees.items parts);
      numbers = subst (AreModuleNumbers p given c.args.gens c.args.bound) (sym c.from_vec-2.ensures) (c.in_ok-numbers.ensures.numbers p tells);
      few = search rules;
      shaped = shaped;
      within = search rules;
      shape = search rules;
      limit = search rules;
      kinds = search rules;
      accounts = search rules;
    }
