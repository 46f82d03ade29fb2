use Rattle.std.proofs.Common.{◌≡◌, ◌+◌, ◌++◌, ◌∷◌, List, [], ℕ, arith, drop, map, subst, sym, take}
use Rattle.std.specs.List.{range_with_len}
use Rattle.std.proofs.lemmas.List.FromFn.{map-range_with_len_more}
use Rattle.free_poly.specs.Terms.{product}
use Rattle.plain_engine.specs.Products.{coefficients}
use Rattle.plain_engine.specs.Spans.{HaveOneSpan}
use Rattle.plain_engine.proofs.RowSpans.{one_span-joined, one_span-none}
use Rattle.plain_engine.proofs.products.add_word.Goals as goal

pub loop-at-init : goal.loop-at-init
loop-at-init g c = record { gathered = c.requires.gathered; span = one_span-none c.args.field.now c.args.gathered.now.rows.items }

pub loop-at-preserved : goal.loop-at-preserved
loop-at-preserved g c =
    let word = c.args.word.now in
    let at = c.loop-at.at in
    let first = c.args.gathered.now.rows.items in
    let new = c.add_product.new.gathered.rows.items in
    let f = λ (k : ℕ). coefficients c.args.columns.now (product (take k word) c.args.relation.now (drop k word)) in
    let front = map f (range_with_len 0 at) in
    let more : front ++ f at ∷ [] ≡ map f (range_with_len 0 (at + 1)) = sym (map-range_with_len_more f 0 at at (omega arith)) in
    record {
      gathered = c.in_ok-add_product.ensures.gathered;
      span = subst (λ (rows : List (List ℕ)). HaveOneSpan c.args.field.now (first ++ rows) new) more
          (one_span-joined c.args.field.now first front c.loop-at.gathered.rows.items (f at ∷ []) new c.loop-at.invariant.span
          (rw (c.split_at.ensures.front, c.split_at.ensures.back) at c.in_ok-add_product.ensures.span));
    }

pub returns-clause-span : goal.returns-clause-span
returns-clause-span g c =
    let word = c.args.word.now in
    let f = λ (k : ℕ). coefficients c.args.columns.now (product (take k word) c.args.relation.now (drop k word)) in
    subst (λ (n : ℕ). HaveOneSpan c.args.field.now (c.args.gathered.now.rows.items ++ map f (range_with_len 0 n)) c.loop-at.gathered.rows.items)
    (omega (arith, c.loop-at-test.false, c.loop-at.auto.at-end)) c.loop-at.invariant.span
