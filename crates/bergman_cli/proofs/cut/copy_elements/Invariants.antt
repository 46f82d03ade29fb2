use Rattle.std.proofs.Common.{◌≡◌, take}
use Rattle.bergman_cli.proofs.cut.copy_elements.Given as goal

abbrev pub invariant-loop-element : goal.invariant-loop-element
invariant-loop-element l = l.copies.items ≡ take l.element-index l.elements
