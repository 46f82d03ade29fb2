use Rattle.std.proofs.Common.{◌++◌, drop, length, map, take}
use Rattle.std.specs.List.{range_with_len}
use Rattle.free_poly.specs.Terms.{product}
use Rattle.plain_engine.specs.Products.{coefficients}
use Rattle.plain_engine.specs.Spans.{HaveOneSpan, IsGathered}
use Rattle.plain_engine.proofs.products.add_word.Given as goal

abbrev pub invariant-loop-at : goal.invariant-loop-at
invariant-loop-at g l = record {
  gathered : IsGathered l.field (length l.columns) l.gathered;
  span : HaveOneSpan l.field (l.fn.gathered.rows.items ++ map (λ k. coefficients l.columns (product (take k l.word) l.relation (drop k l.word)))
      (range_with_len 0 l.at)) l.gathered.rows.items;
}
