use Rattle.std.proofs.Common.{◌≡◌, ◌+◌, ◌<◌, ◌++◌, List, ℕ, get_or, length, sym, ap, ◌∙◌, arith, subst, take}
use Rattle.std.proofs.lemmas.List.{take_all}
use Rattle.std.proofs.lemmas.Result.{IfOk-weaker}
use Rattle.back_reduce.specs.Rref.{IsRref}
use Rattle.std.specs.List.{flat_map}
use Rattle.free_poly.specs.declared.term.Term.{Term}
use Rattle.free_poly.specs.Terms.{HasOneDegree}
use Rattle.degree_words.proofs.Listing.{flat_map-take}
use Rattle.plain_engine.specs.Products.{relation_rows, word_rows}
use Rattle.plain_engine.specs.Spans.{HaveOneSpan}
use Rattle.plain_engine.proofs.Forms.{rref-span}
use Rattle.plain_engine.proofs.RowSpans.{one_span-append, one_span-trans}
use Rattle.plain_engine.proofs.products.echelon_of_products.Goals as goal

pub add_relation-requires-clause-no_prefix : goal.add_relation-requires-clause-no_prefix
add_relation-requires-clause-no_prefix g c κs below =
    let weights = c.args.presentation.now.alphabet.weights in
    let relations = c.args.presentation.now.relations in
    let i = c.loop-relation.relation-index in
    let item = c.relation-item.result in
    let given = c.as_slice-relation-items.ensures in
    let is : item ≡ get_or relations i item = c.relation-item.is ∙ ap (λ (rs : List (List Term)). get_or rs i item) given in
    let within : i < length relations = omega (arith, c.loop-relation-test.true, ap length given) in
    c.element_laws.ensures.no_prefix weights c.len-letters.ensures.alphabet.weights item
    (subst (HasOneDegree weights) (sym is) (c.args.presentation.now.one_degree i item within))

pub loop-relation-preserved : goal.loop-relation-preserved
loop-relation-preserved g c =
    let p = c.args.field.now in
    let relations = c.args.presentation.now.relations in
    let i = c.loop-relation.relation-index in
    let item = c.relation-item.result in
    let old = c.loop-relation.gathered.rows.items in
    let new = c.add_relation.new.gathered.rows.items in
    let f = relation_rows c.args.presentation.now.alphabet.weights c.args.lists.now c.args.d c.args.columns.now in
    let front = flat_map f (take i relations) in
    let given = c.as_slice-relation-items.ensures in
    let within : i < length relations = omega (arith, c.loop-relation-test.true, ap length given) in
    let more : front ++ f item ≡ flat_map f (take (i + 1) relations) =
    sym (flat_map-take f relations i item within (c.relation-item.is ∙ ap (λ (rs : List (List Term)). get_or rs i item) given)) in
    record {
      gathered = c.in_ok-add_relation.ensures.gathered;
      span = subst (λ (xs : List (List ℕ)). HaveOneSpan p xs new) more
          (one_span-trans p (front ++ f item) (old ++ f item) new (one_span-append p front old (f item) c.loop-relation.invariant.span)
          (subst (λ (words : List (List ℕ)). HaveOneSpan p (old ++ flat_map (word_rows c.args.columns.now item) words) new) c.words_round-words.ensures
          c.in_ok-add_relation.ensures.span));
    }

pub returns-clause-form : goal.returns-clause-form
returns-clause-form g c =
    let p = c.args.field.now in
    let m = length c.args.columns.now in
    let relations = c.args.presentation.now.relations in
    let rows = c.loop-relation.gathered.rows.items in
    let f = relation_rows c.args.presentation.now.alphabet.weights c.args.lists.now c.args.d c.args.columns.now in
    let all : take c.loop-relation.relation-index relations ≡ relations = take_all c.loop-relation.relation-index relations
    (omega (arith, c.loop-relation-test.false, ap length c.as_slice-relation-items.ensures)) in
    let span = subst (λ (rs : List (List Term)). HaveOneSpan p (flat_map f rs) rows) all c.loop-relation.invariant.span in
    IfOk-weaker c.echelon_of.result (λ echelon. IsRref p m rows echelon.items) (λ echelon. IsRref p m (flat_map f relations) echelon.items)
    (λ echelon h. rref-span p m (flat_map f relations) rows echelon.items span h) c.echelon_of.ensures.form
