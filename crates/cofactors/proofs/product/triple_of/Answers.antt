use Rattle.std.proofs.Common.{◌≡◌, ◌-◌, ◌<◌, List, IfOk, length, get_or, [], sym, ap, ◌∙◌, subst, arith}
use Rattle.std.proofs.lemmas.List.{get_or_default}
use Rattle.std.proofs.lemmas.Result.{IfOk-weaker}
use Rattle.free_poly.specs.declared.term.Term.{Term}
use Rattle.free_poly.specs.Terms.{HasOneDegree, HasResidues, product}
use Rattle.free_poly.proofs.Products.{HasResidues-product}
use Rattle.cofactors.specs.ProductList.{relation_at, triple_terms}
use Rattle.cofactors.proofs.product.triple_of.Goals as goal

pub times-requires : goal.times-requires
times-requires c =
    let given = c.args.presentation.now in
    let r = c.index-as_slice-product.result in
    let k = c.args.product.now.relation - 1 in
    let is : r ≡ get_or given.relations k r = c.index-as_slice-product.is ∙ ap (λ (rs : List (List Term)). get_or rs k r) c.as_slice.ensures in
    c.element_laws.ensures.no_prefix given.alphabet.weights c.len-letters.ensures.alphabet.weights r
    (subst (HasOneDegree given.alphabet.weights) (sym is) (given.one_degree k r (omega (arith, c.requires.some, c.requires.upto))))

pub returns : goal.returns
returns c =
    let relations = c.args.presentation.now.relations in
    let q = c.args.product.now in
    let r = c.index-as_slice-product.result in
    let k = q.relation - 1 in
    let within : k < length relations = omega (arith, c.requires.some, c.requires.upto) in
    let is : r ≡ get_or relations k r = c.index-as_slice-product.is ∙ ap (λ (rs : List (List Term)). get_or rs k r) c.as_slice.ensures in
    let at : r ≡ relation_at relations q.relation = is ∙ get_or_default relations k r [] within in
    let terms : product c.letters.result.now r c.letters-2.result.now ≡ triple_terms relations q =
    λ j. product (c.letters.ensures j) (at j) (c.letters-2.ensures j) in
    record {
      terms = subst (λ (g : List Term). IfOk c.times.result (λ f. f ≡ g)) terms c.times.ensures.product;
      residues = λ p h. IfOk-weaker c.times.result _ (HasResidues p)
          (λ f e. subst (HasResidues p) (sym e) (HasResidues-product p c.letters.result.now r c.letters-2.result.now
          (subst (HasResidues p) (sym is) (h k r within)))) c.times.ensures.product;
    }
