use Rattle.std.proofs.Common.{length, take}
use Rattle.std.specs.List.{flat_map}
use Rattle.plain_engine.specs.Products.{relation_rows}
use Rattle.plain_engine.specs.Spans.{HaveOneSpan, IsGathered}
use Rattle.plain_engine.proofs.products.echelon_of_products.Given as goal

abbrev pub invariant-loop-relation : goal.invariant-loop-relation
invariant-loop-relation g l = record {
  gathered : IsGathered l.field (length l.columns) l.gathered;
  span : HaveOneSpan l.field (flat_map (relation_rows l.presentation.alphabet.weights l.lists l.d l.columns)
      (take l.relation-index l.presentation.relations)) l.gathered.rows.items;
}
