use Rattle.std.proofs.Common.{◌++◌, ◌∙◌, ◌∷◌, [], List, ap, arith, filter, sym}
use Rattle.free_poly.specs.declared.term.Term.{Term}
use Rattle.right_modules.specs.ModuleBasis.{leads_module}
use Rattle.right_modules.proofs.ElementLists.{filter-range_more}
use Rattle.right_modules.proofs.elements.module_elements.Goals as goal

pub loop-place-preserved : goal.loop-place-preserved
loop-place-preserved c =
    let test = leads_module c.args.free in
    let x = c.element.result.now in
    let within = c.of_degree-first.ensures.within.1 in
    c.in_ok-push_part.ensures ∙ ap (λ (fs : List (List Term)). fs ++ filter test (x ∷ [])) c.loop-place.invariant
    ∙ sym (filter-range_more test c.args.basis.now.elements c.of_degree-first.result.0 c.loop-place.place x (omega arith)
    (omega (arith, within)) c.element.ensures)
