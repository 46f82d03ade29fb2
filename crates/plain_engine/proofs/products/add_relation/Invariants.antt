use Rattle.std.proofs.Common.{◌++◌, length, take}
use Rattle.std.specs.List.{flat_map}
use Rattle.plain_engine.specs.Products.{word_rows}
use Rattle.plain_engine.specs.Spans.{HaveOneSpan, IsGathered}
use Rattle.plain_engine.proofs.products.add_relation.Given as goal

abbrev pub invariant-loop-word : goal.invariant-loop-word
invariant-loop-word g l = record {
  gathered : IsGathered l.field (length l.columns) l.gathered;
  span : HaveOneSpan l.field (l.fn.gathered.rows.items ++ flat_map (word_rows l.columns l.relation) (take l.word-index l.words)) l.gathered.rows.items;
}
