use Rattle.std.proofs.Common.{◌≡◌, take}
use Rattle.plain_engine.specs.Products.{coefficients}
use Rattle.plain_engine.proofs.products.row_of.Given as goal

abbrev pub invariant-loop-word : goal.invariant-loop-word
invariant-loop-word l = l.residues.items ≡ coefficients (take l.word-index l.columns) l.poly
