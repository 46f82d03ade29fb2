use Rattle.std.proofs.Common.{◌≡◌, ℕ, List, Bor, MutBor, Vec, Global, ap, ◌∙◌, subst}
use Rattle.std.specs.List.{AllZip}
use Rattle.std.specs.Result.{IfOk}
use Rattle.rayon.proofs.ListFacts.{AllZip-weaken}
use Rattle.back_reduce.specs.declared.echelon.Leader.{Leader}
use Rattle.back_reduce.specs.Leaders.{IsReducedRow}
use Rattle.words.proofs.Gathered.{gathered}
use Rattle.back_reduce.proofs.echelon.reduced_rows.Goals as goal

pub returns : goal.returns
returns g c =
    let slice = ap (λ it. it.base.slice.now) c.map_init.ensures.base ∙ ap (λ it. it.slice.now) c.with_min_len.ensures.base ∙ c.par_iter.ensures in
    let h = c.in_ok-collect.ensures in
    let field : c.map_init.result.f.1.now ≡ c.args.field.now = ap (λ f. f.1.now) c.map_init.ensures.f in
    let leaders : c.map_init.result.f.2.now ≡ c.args.leaders.now = ap (λ f. f.2.now) c.map_init.ensures.f in
    let R : Leader → List ℕ → Type 0 = λ own row. IsReducedRow c.map_init.result.f.1.now c.map_init.result.f.2.now own.column own.row row in
    let each = AllZip-weaken (λ (z : Bor Leader) r. (before : MutBor (Vec ℕ Global)) × (after : MutBor (Vec ℕ Global)) × IfOk r (R z.now))
    (λ z r. IfOk r (R z.now)) (λ z r own. own.2) h.1.0 h.0 h.1.2 in
    let all = gathered (λ z. z.now) (λ v. v.items) R c.args.leaders.now h.1.0 h.0 c.in_ok-collect.field-0 (h.1.1 ∙ slice) each h.2 in
    subst (λ (p : ℕ). IfOk c.in_ok-collect.field-0 (λ v. AllZip (λ own row. IsReducedRow p c.args.leaders.now own.column own.row row)
    c.args.leaders.now v.items)) field
    (subst (λ (l : List Leader). IfOk c.in_ok-collect.field-0 (λ v. AllZip
    (λ own row. IsReducedRow c.map_init.result.f.1.now l own.column own.row row) c.args.leaders.now v.items)) leaders all)
