use Rattle.std.proofs.Common.{◌≡◌, ◌≤◌, List, All, length, get_or, arith, ap, ◌∙◌, subst}
use Rattle.std.proofs.lemmas.List.{take_all}
use Rattle.std.proofs.lemmas.List.Elements.{All-more}
use Rattle.free_poly.specs.declared.term.Term.{Term}
use Rattle.free_poly.specs.Poly.{IsPolynomial}
use Rattle.ideal_laws.proofs.laws.setting_law.Goals as goal

pub loop-relation-preserved : goal.loop-relation-preserved
loop-relation-preserved c =
    let relations = c.args.presentation.now.relations in
    let at = c.loop-relation.relation-index in
    let item : c.relation-item.result ≡ get_or relations at c.relation-item.result = c.relation-item.is
    ∙ ap (λ (rs : List (List Term)). get_or rs at c.relation-item.result) c.as_slice-relation-items.ensures in
    All-more IsPolynomial relations at c.relation-item.result (omega
    (arith, ap length c.as_slice-relation-items.ensures, c.loop-relation-test.true)) c.loop-relation.invariant
    (subst IsPolynomial item c.terms-terms.ensures.form)

pub returns : goal.returns
returns c =
    let relations = c.args.presentation.now.relations in
    let past : length relations ≤ c.loop-relation.relation-index = omega (arith, ap length c.as_slice-relation-items.ensures, c.loop-relation-test.false) in
    let form : All IsPolynomial relations = subst (All IsPolynomial) (take_all c.loop-relation.relation-index relations past) c.loop-relation.invariant in
    record {
      modulus = c.modulus-modulus.ensures.field;
      are_weights = c.weights_of-weights.ensures.weights;
      are_relations = λ k d within. record {
        form = form k d within;
        residues = c.requires k d within;
        letters = c.args.presentation.now.letters k d within;
        one_degree = c.args.presentation.now.one_degree k d within;
        other = c.args.presentation.now.others k d within;
        degree = c.args.presentation.now.degrees k d within;
      };
    }
