use Rattle.std.proofs.Common.{◌+◌, refl}
use Rattle.worked_examples.proofs.bases.numbers_of.Goals as goal
use Rattle.ideal_laws.specs.Ideal.{ideal_of}

pub series-requires-clause-factor_free : goal.series-requires-clause-factor_free
series-requires-clause-factor_free c = c.lower_law.ensures.factors (ideal_of c.args.field.now c.args.given.now) c.setting_law.ensures
    (c.args.basis.now.done + 1) c.args.basis.now (record {
      kept = c.done.ensures.kept;
      next = refl;
      same_weights = c.requires.weights;
      reduced = c.requires.reduced;
    })
