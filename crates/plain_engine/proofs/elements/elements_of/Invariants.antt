use Rattle.std.proofs.Common.{take}
use Rattle.plain_engine.specs.Elements.{AreElements}
use Rattle.plain_engine.proofs.elements.elements_of.Given as goal

abbrev pub invariant-loop-row : goal.invariant-loop-row
invariant-loop-row l = AreElements l.columns l.below.elements (take l.row-index l.echelon) l.elements.items
