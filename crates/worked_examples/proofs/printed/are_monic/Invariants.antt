use Rattle.std.proofs.Common.{All, take}
use Rattle.free_poly.specs.Poly.{IsMonic}
use Rattle.worked_examples.proofs.printed.are_monic.Given as goal

abbrev pub invariant-loop-element : goal.invariant-loop-element
invariant-loop-element l = All IsMonic (take l.element-index l.elements)
