use Rattle.std.proofs.Common.{◌≡◌, ℕ, List, ap, ◌∙◌, subst}
use Rattle.std.specs.List.{AllZip}
use Rattle.std.specs.Result.{IfOk}
use Rattle.free_poly.specs.declared.term.Term.{Term}
use Rattle.overlaps.specs.declared.obstruction.Obstruction.{Obstruction}
use Rattle.overlaps.specs.Listed.{IsRowFor}
use Rattle.words.proofs.Gathered.{gathered}
use Rattle.degree_loop.proofs.rows.obstruction_rows.Goals as goal

pub returns : goal.returns
returns g c =
    let slice = ap (λ it. it.base.slice.now) c.map.ensures.base ∙ ap (λ it. it.slice.now) c.with_min_len.ensures.base ∙ c.par_iter.ensures in
    let h = c.in_ok-collect.ensures in
    let p = c.map.result.f.1.now in
    let below = c.map.result.f.2.now in
    let found = c.args.found.now in
    let field : p ≡ c.args.field.now = ap (λ f. f.1.now) c.map.ensures.f in
    let same : below ≡ c.args.below.now = ap (λ f. f.2.now) c.map.ensures.f in
    let R : Obstruction → List Term → Type 0 = IsRowFor p below.weights below.elements in
    let all = gathered (λ z. z.now) (λ v. v.items) R found h.1.0 h.0 c.in_ok-collect.field-0 (h.1.1 ∙ slice) h.1.2 h.2 in
    subst (λ (q : ℕ). IfOk c.in_ok-collect.field-0 (λ v. AllZip (IsRowFor q c.args.below.now.weights c.args.below.now.elements) found v.items)) field
    (subst (λ b. IfOk c.in_ok-collect.field-0 (λ v. AllZip (IsRowFor p b.weights b.elements) found v.items)) same all)
