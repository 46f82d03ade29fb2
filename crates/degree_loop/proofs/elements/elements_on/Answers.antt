use Rattle.std.proofs.Common.{◌≡◌, map, ap, ◌∙◌, subst}
use Rattle.std.specs.Result.{IfOk}
use Rattle.std.proofs.lemmas.Slice.Zip.{AllZip-map}
use Rattle.rayon.proofs.ListFacts.{IfOk-then}
use Rattle.free_poly.specs.Poly.{element_on}
use Rattle.words.proofs.Gathered.{gathered}
use Rattle.degree_loop.proofs.elements.elements_on.Goals as goal

pub returns : goal.returns
returns g c =
    let slice = ap (λ it. it.base.slice.now) c.map.ensures.base ∙ ap (λ it. it.slice.now) c.with_min_len.ensures.base ∙ c.par_iter.ensures in
    let h = c.in_ok-collect.ensures in
    let columns = c.map.result.f.1.now in
    let same : columns ≡ c.args.columns.now = ap (λ f. f.1.now) c.map.ensures.f in
    let all = gathered (λ z. z.now) (λ v. v.items) (λ row element. element ≡ element_on columns row) c.args.rows.now h.1.0 h.0
    c.in_ok-collect.field-0 (h.1.1 ∙ slice) h.1.2 h.2 in
    subst (λ cs. IfOk c.in_ok-collect.field-0 (λ v. v.items ≡ map (element_on cs) c.args.rows.now)) same
    (IfOk-then c.in_ok-collect.field-0 _ _ all (λ v each. AllZip-map (element_on columns) c.args.rows.now v.items each))
