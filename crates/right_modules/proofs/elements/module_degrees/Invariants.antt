use Rattle.right_modules.specs.Answered.{ArePartsUpto}
use Rattle.right_modules.proofs.elements.module_degrees.Given as goal

abbrev pub invariant-loop-below : goal.invariant-loop-below
invariant-loop-below l = ArePartsUpto l.free l.basis l.below l.degrees.items
