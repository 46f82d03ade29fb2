use Rattle.std.proofs.Common.{◌≡◌, ◌+◌, ◌<◌, ◌++◌, ◌∷◌, [], ℕ, List, get_or, length, map, take, sym, ap, ◌∙◌, arith, subst, All}
use Rattle.std.proofs.lemmas.List.{get_or-map, length-map, take_more}
use Rattle.std.proofs.lemmas.List.Elements.{All-nil, All-push, All-weaker}
use Rattle.words.specs.Order.{IsLetterwiseGreater}
use Rattle.words.proofs.Members.{AllPairs-nil}
use Rattle.free_poly.specs.declared.term.Term.{Term}
use Rattle.free_poly.specs.Poly.{IsMonic}
use Rattle.cofactors.specs.declared.row.Row.{Row}
use Rattle.cofactors.specs.ProductList.{triple_terms}
use Rattle.cofactors.specs.Rows.{AreLeaders, IsPlusSpan, IsRow, IsTracked, lead_word}
use Rattle.cofactors.proofs.Spans.{span-more, span-trans}
use Rattle.cofactors.proofs.leaders.leaders_of.Goals as goal

no_leaders : (p : ℕ) → AreLeaders p []
no_leaders p = record {
  each = All-nil (IsRow p);
  monic = All-nil (λ (r : Row). IsMonic r.element);
  falling = AllPairs-nil (λ (r s : Row). IsLetterwiseGreater (lead_word r) (lead_word s));
}

pub loop-place-init : goal.loop-place-init
loop-place-init c =
    let p = c.args.field.now in
    let fs = map (triple_terms c.args.presentation.now.relations) c.args.triples.now in
    let none : c.new-leaders.result.items ≡ [] = c.new-leaders.ensures.items in
    record {
      leaders = subst (AreLeaders p) (sym none) (no_leaders p);
      tracked = subst (All (IsTracked p fs [])) (sym none) (All-nil (IsTracked p fs []));
      spanned = All-nil (λ (f : List Term). IsPlusSpan p c.new-leaders.result.items f []);
    }

pub row_of-requires : goal.row_of-requires
row_of-requires c = record { residues = c.in_ok-element.ensures.residues c.args.field.now c.requires.relations }

pub loop-place-preserved : goal.loop-place-preserved
loop-place-preserved c =
    let p = c.args.field.now in
    let relations = c.args.presentation.now.relations in
    let triples = c.args.triples.now in
    let f = triple_terms relations in
    let fs = map f triples in
    let i = c.loop-place.place in
    let q = c.index-triples-place.result in
    let element : c.in_ok-element.element ≡ f q = c.in_ok-element.ensures.terms in
    let size : length fs ≡ length triples = length-map triples f in
    let within : i < length fs = omega (arith, size, c.loop-place-test.true) in
    let here : get_or fs i [] ≡ f q = get_or-map f triples i q [] c.loop-place-test.true ∙ ap f (sym c.index-triples-place.is) in
    let old = c.loop-place.leaders.items in
    let new = c.insert.new.leaders.items in
    let row = c.in_ok-row.row in
    let left = c.in_ok-left.left in
    let given = c.as_slice.ensures.value in
    let tracked_old = c.loop-place.invariant.tracked in
    let tracked_row : IsTracked p fs [] row = c.in_ok-row.ensures.tracked fs within (here ∙ sym element) in
    let tracked_left : IsTracked p fs [] left = c.in_ok-left.ensures.tracked fs [] (subst (All (IsTracked p fs [])) (sym given) tracked_old) tracked_row in
    let spanned_row : IsPlusSpan p old row.element left.element = subst (λ (rs : List Row). IsPlusSpan p rs row.element left.element) given
    c.in_ok-left.ensures.spanned in
    let kept = c.in_ok-insert.ensures.kept in
    let spanned_new : IsPlusSpan p new row.element [] = span-trans p new row.element left.element
    (span-more p old new kept row.element left.element spanned_row) c.in_ok-insert.ensures.spanned in
    let spanned_here : IsPlusSpan p new (f q) [] = subst (λ (g : List Term). IsPlusSpan p new g []) (c.in_ok-row.ensures.element ∙ element) spanned_new in
    let more : take (i + 1) fs ≡ take i fs ++ f q ∷ [] = take_more fs i [] within ∙ ap (λ (g : List Term). take i fs ++ g ∷ []) here in
    record {
      leaders = c.in_ok-insert.ensures.leaders;
      tracked = c.in_ok-insert.ensures.tracked fs tracked_old tracked_left;
      spanned = subst (All (λ (g : List Term). IsPlusSpan p new g [])) (sym more)
          (All-push (λ (g : List Term). IsPlusSpan p new g []) (take i fs) (f q)
          (All-weaker (λ (g : List Term). IsPlusSpan p old g []) (λ (g : List Term). IsPlusSpan p new g [])
          (λ g h. span-more p old new kept g [] h) (take i fs) c.loop-place.invariant.spanned) spanned_here);
    }
