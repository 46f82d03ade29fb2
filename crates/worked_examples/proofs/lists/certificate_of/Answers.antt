use Rattle.std.proofs.Common.{◌+◌, refl}
use Rattle.worked_examples.proofs.lists.certificate_of.Goals as goal
use Rattle.ideal_laws.specs.Ideal.{ideal_of}

pub index_of-requires : goal.index_of-requires
index_of-requires c = c.lower_law.ensures.factors (ideal_of c.args.field.now c.args.given.now)
    c.setting_law.ensures (c.args.basis.now.done + 1) c.args.basis.now (record {
      kept = c.done-done.ensures.kept;
      next = refl;
      same_weights = c.requires.weights;
      reduced = c.requires.reduced;
    })
