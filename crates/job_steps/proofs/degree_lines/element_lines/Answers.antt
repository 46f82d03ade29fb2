use Rattle.std.proofs.Common.{◌≡◌, ◌-◌, ◌<◌, ℕ, [], All, Vec, Global, length, get_or, ap, ap₂, sym, ◌∙◌, arith, subst}
use Rattle.std.specs.List.{AllZip}
use Rattle.std.specs.Result.{IfOk}
use Rattle.std.proofs.lemmas.List.{map-id}
use Rattle.std.proofs.lemmas.List.FromFn.{get_or-range_with_len, length-range_with_len}
use Rattle.rayon.specs.Numbers.{nat_range}
use Rattle.words.proofs.Gathered.{gathered}
use Rattle.free_poly.specs.Terms.{HasResidues}
use Rattle.ideal_laws.specs.Kept.{IsKept}
use Rattle.poly_writer.specs.Texts.{element_line}
use Rattle.job_steps.proofs.degree_lines.element_lines.Goals as goal

pub returns : goal.returns
returns g c =
    let base = ap (λ it. it.base) c.map.ensures.base ∙ c.with_min_len.ensures.base in
    let it = c.map.result.base.base in
    let start : it.start ≡ c.args.first = ap (λ it. it.start) base ∙ c.into_par_iter.ensures.0 in
    let end : it.end ≡ c.args.end = ap (λ it. it.end) base ∙ c.into_par_iter.ensures.1 in
    let h = c.in_ok-collect.ensures in
    let f = c.map.result.f in
    let R : ℕ → Vec ℕ Global → Type 0 = λ place line. line.items ≡ element_line f.1.now.names f.2.now (get_or f.3.now.elements place []) in
    let all = gathered (λ place. place) (λ v. v.items) R (nat_range c.args.first c.args.end) h.1.0 h.0 c.in_ok-collect.field-0
    (map-id h.1.0 ∙ h.1.1 ∙ ap₂ nat_range start end) h.1.2 h.2 in
    subst (λ f. IfOk c.in_ok-collect.field-0 (λ lines. AllZip (λ (place : ℕ) line. line.items
    ≡ element_line f.1.now.names f.2.now (get_or f.3.now.elements place [])) (nat_range c.args.first c.args.end) lines.items)) c.map.ensures.f all

pub collect-requires-clause-ready : goal.collect-requires-clause-ready
collect-requires-clause-ready g c κs within = λ k d low. (
  let base = ap (λ it. it.base) c.map.ensures.base ∙ c.with_min_len.ensures.base in
      let it = c.map.result.base.base in
      let start : it.start ≡ c.args.first = ap (λ it. it.start) base ∙ c.into_par_iter.ensures.0 in
      let end : it.end ≡ c.args.end = ap (λ it. it.end) base ∙ c.into_par_iter.ensures.1 in
      let place = get_or (nat_range it.start it.end) k d in
      let below : k < it.end - it.start = omega (arith, low, length-range_with_len it.start (it.end - it.start)) in
      let inside : place < length c.args.basis.now.elements =
      omega (arith, get_or-range_with_len it.start (it.end - it.start) k d below, below, start, end, c.requires.within) in
      subst (λ f. (place < length f.3.now.elements) × (f.3.now.weights ≡ f.1.now.weights) × IsKept f.3.now × All (HasResidues f.2.now) f.3.now.elements)
      (sym c.map.ensures.f) (inside, c.requires.weights, c.done-done.ensures.kept, c.requires.residues),
  λ y h. tt,
)
