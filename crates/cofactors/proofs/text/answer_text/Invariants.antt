use Rattle.std.proofs.Common.{◌≡◌, ◌++◌, take}
use Rattle.std.specs.List.{flat_map}
use Rattle.cofactors.specs.Texts.{product_line}
use Rattle.cofactors.proofs.text.answer_text.Given as goal

abbrev pub invariant-loop-product : goal.invariant-loop-product
invariant-loop-product l = l.text.items ≡ l.initial.text.items ++ flat_map (product_line l.alphabet.names l.field) (take l.product-index l.product-items)
