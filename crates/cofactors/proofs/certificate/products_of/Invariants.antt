use Rattle.std.proofs.Common.{◌≡◌, take}
use Rattle.cofactors.specs.Rows.{negative_products}
use Rattle.cofactors.proofs.certificate.products_of.Given as goal

abbrev pub invariant-loop-factor : goal.invariant-loop-factor
invariant-loop-factor l = l.products.items ≡ negative_products l.field l.triples (take l.factor-index l.factors)
