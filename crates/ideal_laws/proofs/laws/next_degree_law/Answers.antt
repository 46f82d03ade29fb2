use Rattle.std.proofs.Common.{sym}
use Rattle.ideal_laws.specs.Ideal.{ideal_of}
use Rattle.ideal_laws.proofs.Lower.{lower_forms, lower_residues}
use Rattle.ideal_laws.proofs.laws.next_degree_law.Goals as goal

pub returns-clause-below : goal.returns-clause-below
returns-clause-below c = record {
  kept = c.done-done.ensures.kept;
  next = sym c.requires.next;
  same_weights = c.requires.same_weights;
  reduced = c.requires.reduced;
}

pub returns-clause-lower : goal.returns-clause-lower
returns-clause-lower c = c.lower_law.ensures.lower (ideal_of c.args.field.now c.args.presentation.now) c.setting_law.ensures c.args.d c.args.below.now
    (returns-clause-below c)

pub returns-clause-forms : goal.returns-clause-forms
returns-clause-forms c = lower_forms (ideal_of c.args.field.now c.args.presentation.now) c.args.d c.args.below.now.elements (returns-clause-lower c)

pub returns-clause-residues : goal.returns-clause-residues
returns-clause-residues c = lower_residues (ideal_of c.args.field.now c.args.presentation.now) c.args.d c.args.below.now.elements (returns-clause-lower c)

pub returns-clause-factor_free : goal.returns-clause-factor_free
returns-clause-factor_free c = c.lower_law.ensures.factors (ideal_of c.args.field.now c.args.presentation.now) c.setting_law.ensures c.args.d
    c.args.below.now (returns-clause-below c)
