use Rattle.std.proofs.Common.{◌≡◌, ◌++◌, take}
use Rattle.std.specs.List.{flat_map}
use Rattle.poly_writer.specs.Texts.{element_line}
use Rattle.poly_writer.proofs.element.degree_text.Given as goal

abbrev pub invariant-loop-element : goal.invariant-loop-element
invariant-loop-element l = l.text.items ≡ l.initial.text.items ++ flat_map (element_line l.alphabet.names l.field) (take l.element-index l.elements)
