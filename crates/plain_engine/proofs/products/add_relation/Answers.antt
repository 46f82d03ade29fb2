use Rattle.std.proofs.Common.{◌≡◌, ◌+◌, ◌++◌, List, ℕ, sym, ap, ◌∙◌, subst, take}
use Rattle.std.specs.List.{flat_map}
use Rattle.degree_words.proofs.Listing.{flat_map-take}
use Rattle.plain_engine.specs.Products.{word_rows}
use Rattle.plain_engine.specs.Spans.{HaveOneSpan}
use Rattle.plain_engine.proofs.RowSpans.{one_span-joined, one_span-none}
use Rattle.plain_engine.proofs.products.add_relation.Goals as goal

pub loop-word-init : goal.loop-word-init
loop-word-init g c = record { gathered = c.requires.gathered; span = one_span-none c.args.field.now c.args.gathered.now.rows.items }

pub loop-word-preserved : goal.loop-word-preserved
loop-word-preserved g c =
    let words = c.args.words.now in
    let i = c.loop-word.word-index in
    let first = c.args.gathered.now.rows.items in
    let new = c.add_word.new.gathered.rows.items in
    let f = word_rows c.args.columns.now c.args.relation.now in
    let rows = f c.letters-word.result.now in
    let front = flat_map f (take i words) in
    let more : front ++ rows ≡ flat_map f (take (i + 1) words) =
    sym (flat_map-take f words i c.word-item.result c.loop-word-test.true c.word-item.is
    ∙ ap (λ (w : List ℕ). front ++ f w) (sym c.letters-word.ensures)) in
    record {
      gathered = c.in_ok-add_word.ensures.gathered;
      span = subst (λ (xs : List (List ℕ)). HaveOneSpan c.args.field.now (first ++ xs) new) more
          (one_span-joined c.args.field.now first front c.loop-word.gathered.rows.items rows new c.loop-word.invariant.span
          c.in_ok-add_word.ensures.span);
    }
