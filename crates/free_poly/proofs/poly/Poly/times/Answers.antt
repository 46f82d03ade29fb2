use Rattle.std.proofs.Common.{◌≡◌, ◌≤◌, ℕ, List, length, take, arith, ap, ◌∙◌, subst}
use Rattle.std.proofs.lemmas.List.{take_all}
use Rattle.free_poly.specs.declared.term.Term.{Term}
use Rattle.free_poly.specs.Poly.{IsPolynomial}
use Rattle.free_poly.specs.Terms.{HasNoPrefix, product}
use Rattle.free_poly.proofs.Products.{IsPolynomial-product_apart}
use Rattle.free_poly.proofs.poly.Poly.times.Goals as goal

-- the terms that were made of so many terms of f, and no fewer than all
made_form : (u : List ℕ) (f : List Term) (v : List ℕ) (n : ℕ) (made : List Term) → made ≡ product u (take n f) v → length f ≤ n →
    HasNoPrefix f → IsPolynomial f → IsPolynomial made
made_form u f v n made is all apart form =
    rw (is ∙ ap (λ (g : List Term). product u g v) (take_all n f all)) (IsPolynomial-product_apart u f v apart form)

pub invariant_of-result : goal.invariant_of-result
invariant_of-result c =
    made_form _ c.args.self.now _ _ _ c.loop-term.invariant (omega
    (arith, c.loop-term-test.false, ap length c.deref-term-items.ensures.value, ap length c.self.view_is)) c.requires
    (subst IsPolynomial c.self.view_is c.self.invariant)

pub returns-clause-form : goal.returns-clause-form
returns-clause-form c =
    made_form _ c.args.self.now _ _ _ c.loop-term.invariant (omega
    (arith, c.loop-term-test.false, ap length c.deref-term-items.ensures.value, ap length c.self.view_is)) c.requires
    (subst IsPolynomial c.self.view_is c.self.invariant)
