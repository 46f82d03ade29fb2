use Rattle.std.proofs.Common.{ℕ, List, All, subst}
use Rattle.std.proofs.lemmas.List.Elements.{All-same}
use Rattle.ideal_laws.specs.Ideal.{ideal_over}
use Rattle.ideal_laws.specs.Kept.{lead_degree}
use Rattle.cofactors.specs.declared.product.Product.{Product}
use Rattle.cofactors.specs.ProductList.{IsProduct}
use Rattle.worked_examples.proofs.lists.assert_answer.Goals as goal

pub expand-requires-clause-products : goal.expand-requires-clause-products
expand-requires-clause-products g c =
    let p = c.in_ok-field.field in
    let a = c.in_ok-given.field-0 in
    let weights = c.in_ok-basis.basis.weights in
    let d = lead_degree weights a.question in
    let found = c.as_slice.result.now in (
      d,
      subst (λ (ws : List ℕ). All (IsProduct (ideal_over p ws a.given.relations) d) found) c.in_ok-basis.ensures.weights
          (All-same (IsProduct (ideal_over p weights a.given.relations) d) found c.in_ok-found.found.products c.as_slice.ensures
          c.in_ok-found.ensures.are_products.each),
    )
