use Rattle.std.proofs.Common.{◌≡◌, ◌<◌, ◌∷◌, ◌++◌, [], ℕ, List, All, get_or, length, sym, subst, ap, ◌∙◌, arith}
use Rattle.std.proofs.lemmas.List.{length-map, length_push}
use Rattle.std.proofs.lemmas.List.Elements.{All-map, All-push}
use Rattle.free_poly.specs.Terms.{HasResidues, product, total_at}
use Rattle.free_poly.proofs.Products.{HasResidues-product}
use Rattle.free_poly.proofs.Totals.{AreApart-from_polynomial, total_residue}
use Rattle.back_reduce.specs.Rows.{IsRow}
use Rattle.plain_engine.specs.Products.{coefficients}
use Rattle.plain_engine.specs.Spans.{HaveOneSpan, SpansAll}
use Rattle.plain_engine.proofs.RowSpans.{one_span-append, one_span-full, spans_all-append}
use Rattle.plain_engine.proofs.products.add_product.Goals as goal

pub returns-then-gathered-clause-span : goal.returns-then-gathered-clause-span
returns-then-gathered-clause-span g c =
    let columns = c.args.columns.now in
    let f = product c.args.left.now c.args.relation.now c.args.right.now in
    one_span-full c.args.field.now (length columns) c.args.gathered.now.rows.items (coefficients columns f)
    (c.requires.gathered.full c.if-gathered.true) (length-map columns (λ w. total_at f w))

pub returns-clause-gathered : goal.returns-clause-gathered
returns-clause-gathered g c =
    let p = c.args.field.now in
    let columns = c.args.columns.now in
    let m = length columns in
    let rows = c.make_room.new.gathered.rows.items in
    let made = c.in_ok-make_room.ensures.gathered in
    let row = c.in_ok-row.row in
    let f = c.in_ok-times.field-0 in
    let residues = subst (HasResidues p) (sym c.in_ok-times.ensures.product)
    (HasResidues-product p c.args.left.now c.args.relation.now c.args.right.now c.requires.residues) in
    let is_row : IsRow p m (coefficients columns f) = record {
      size = length-map columns (λ w. total_at f w);
      residues = All-map (λ r. r < p) (λ w. total_at f w) columns (λ k d within. total_residue p
          (omega (arith, c.modulus-modulus.ensures.field.two_or_more)) f (AreApart-from_polynomial f c.in_ok-times.ensures.form) residues (get_or columns k d));
    } in
    let items = c.in_ok-push.ensures.items in
    record {
      each = subst (All (IsRow p m)) (sym items) (All-push (IsRow p m) rows row made.each (subst (IsRow p m) (sym c.in_ok-row.ensures) is_row));
      few = omega (arith, ap length items, length_push rows row, c.in_ok-make_room.ensures.room);
      full = λ is. subst (SpansAll p m) (sym items) (spans_all-append p m rows (row ∷ []) (made.full is));
    }

pub returns-clause-span : goal.returns-clause-span
returns-clause-span g c =
    let p = c.args.field.now in
    let old = c.args.gathered.now.rows.items in
    let rows = c.make_room.new.gathered.rows.items in
    let row : c.in_ok-row.row ≡ coefficients c.args.columns.now (product c.args.left.now c.args.relation.now c.args.right.now) =
    c.in_ok-row.ensures ∙ ap (coefficients c.args.columns.now) c.in_ok-times.ensures.product in
    subst (λ (r : List ℕ). HaveOneSpan p (old ++ r ∷ []) c.push.new.self.items) row
    (subst (HaveOneSpan p (old ++ c.in_ok-row.row ∷ [])) (sym c.in_ok-push.ensures.items)
    (one_span-append p old rows (c.in_ok-row.row ∷ []) c.in_ok-make_room.ensures.span))
