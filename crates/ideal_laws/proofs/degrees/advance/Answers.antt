use Rattle.std.proofs.Common.{◌≡◌, ◌+◌, ◌++◌, ℕ, List, All, Err, Result, subst, sym, ap, ◌∙◌, length}
use Rattle.std.proofs.lemmas.Result.{err_from_is_err_and}
use Rattle.free_poly.specs.declared.term.Term.{Term}
use Rattle.free_poly.specs.Terms.{HasDegree, UsesLetters}
use Rattle.ideal_laws.specs.Basis.{IsReducedBasis}
use Rattle.ideal_laws.specs.declared.presentation.Presentation.{Presentation}
use Rattle.ideal_laws.specs.Engine.{Elements, IsNextDegree}
use Rattle.ideal_laws.specs.Ideal.{ideal_of, ideal_over}
use Rattle.ideal_laws.specs.Quantities.{IsFirstPassing, IsQuantity, NonePasses}
use Rattle.ideal_laws.proofs.Grown.{next_from_reduced, reduced_upto_grown}
use Rattle.ideal_laws.proofs.degrees.advance.Goals as goal

-- the basis that was found, by the weights of the basis below and its degree
own_basis : (p : ℕ) (given : Presentation) (basis : Elements) (elements : List (List Term)) → IsNextDegree p given basis (basis.done + 1) → (done : ℕ) →
    done ≡ basis.done → IsReducedBasis (ideal_of p given) (done + 1) elements →
    IsReducedBasis (ideal_over p basis.weights given.relations) (basis.done + 1) elements
own_basis p given basis elements next done is h =
    subst (λ (ws : List ℕ). IsReducedBasis (ideal_over p ws given.relations) (basis.done + 1) elements) (sym next.same_weights)
    (subst (λ (n : ℕ). IsReducedBasis (ideal_of p given) (n + 1) elements) is h)

one_fault : {T E : Type 0} (r : Result T E) (a b : E) → r ≡ Err a → r ≡ Err b → a ≡ b
one_fault r a b h k = cc

pub returns-in_err-report-clause-limit : goal.returns-in_err-report-clause-limit
returns-in_err-report-clause-limit g c = λ kind degree value e.
    let p = err_from_is_err_and c.from_residual.result c.from_residual.ensures.1 in
    let Q : ℕ → Type 0 = λ n. (degree ≡ n + 1) × IsFirstPassing
    (IsQuantity (ideal_of c.args.field.now c.args.presentation.now) c.args.basis.now (n + 1)) (g.E.DegreeEngine.kinds c.args.engine.now) kind value in
    subst Q c.done-d.ensures.value (c.in_err-report.ensures.limit kind degree value (ap Err (sym p.2 ∙ one_fault c.from_residual.result _ _ p.1 e)))

pub push_degree-requires-clause-letters : goal.push_degree-requires-clause-letters
push_degree-requires-clause-letters g c =
    let basis = c.args.basis.now in
    let elements = c.in_ok-report.report.elements in
    let h = own_basis c.args.field.now c.args.presentation.now basis elements c.requires c.done-d.result c.done-d.ensures.value
    c.in_ok-report.ensures.elements in
    subst (All (UsesLetters (length basis.weights))) (sym c.into_vec.ensures)
    (next_from_reduced c.args.field.now c.args.presentation.now.relations basis elements c.in_ok-report.ensures.few h).letters

pub push_degree-requires-clause-degree : goal.push_degree-requires-clause-degree
push_degree-requires-clause-degree g c =
    let basis = c.args.basis.now in
    let elements = c.in_ok-report.report.elements in
    let h = own_basis c.args.field.now c.args.presentation.now basis elements c.requires c.done-d.result c.done-d.ensures.value
    c.in_ok-report.ensures.elements in
    subst (All (HasDegree basis.weights (basis.done + 1))) (sym c.into_vec.ensures)
    (next_from_reduced c.args.field.now c.args.presentation.now.relations basis elements c.in_ok-report.ensures.few h).degree

pub returns-clause-reduced : goal.returns-clause-reduced
returns-clause-reduced g c =
    let basis = c.args.basis.now in
    let elements = c.in_ok-report.report.elements in
    let h = own_basis c.args.field.now c.args.presentation.now basis elements c.requires c.done-d.result c.done-d.ensures.value
    c.in_ok-report.ensures.elements in
    let pushed = c.in_ok-push_degree.ensures in
    reduced_upto_grown c.args.field.now c.args.presentation.now.relations basis c.push_degree.new.self elements c.done-d.ensures.kept
    c.requires.reduced c.in_ok-report.ensures.few h
    pushed.weights pushed.done (pushed.elements ∙ ap (λ (fs : List (List Term)). basis.elements ++ fs) c.into_vec.ensures)

pub returns-clause-within : goal.returns-clause-within
returns-clause-within g c =
    let basis = c.args.basis.now in
    subst (λ (n : ℕ). NonePasses (IsQuantity (ideal_of c.args.field.now c.args.presentation.now) basis (n + 1)) (g.E.DegreeEngine.kinds c.args.engine.now))
    c.done-d.ensures.value c.in_ok-report.ensures.within
