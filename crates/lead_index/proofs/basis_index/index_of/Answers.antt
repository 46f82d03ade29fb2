use Rattle.std.proofs.Common.{◌≡◌, ◌+◌, ◌<◌, ◌∙◌, [], ap, arith, get_or, length, subst, sym}
use Rattle.std.proofs.lemmas.List.{get_or_default}
use Rattle.free_poly.specs.Poly.{lead_of}
use Rattle.ideal_laws.specs.Kept.{IsKeptElement}
use Rattle.lead_index.specs.Leads.{IsIndexOf}
use Rattle.lead_index.proofs.Indexing.{IsIndexUpto, fresh_lead, indexed_all, indexed_more, kept_fit, none_indexed}
use Rattle.lead_index.proofs.basis_index.index_of.Goals as goal

pub loop-place-init : goal.loop-place-init
loop-place-init c = subst (IsIndexUpto c.args.basis.now.elements 0) (sym c.new-index.ensures) (none_indexed c.args.basis.now.elements)

pub add_lead-requires : goal.add_lead-requires
add_lead-requires c = λ w e.
    let G = c.args.basis.now.elements in
    let n = c.loop-place.place in
    let k = c.done-done.ensures.kept in
    let f = c.element.result.now in
    let lt : n < length G = omega (arith, c.len-count.ensures) in
    let first : get_or G n [] ≡ f = get_or_default G n [] f lt ∙ sym c.element.ensures in
    let kept = subst (IsKeptElement c.args.basis.now.weights c.args.basis.now.done) first (k.each n [] lt) in
    fresh_lead G c.requires n lt c.loop-place.index c.loop-place.invariant w (ap lead_of first ∙ e)
    (kept_fit c.args.basis.now.weights c.args.basis.now.done k.weights k.degrees f kept w e)

pub loop-place-preserved : goal.loop-place-preserved
loop-place-preserved c =
    let G = c.args.basis.now.elements in
    let n = c.loop-place.place in
    let f = c.element.result.now in
    let lt : n < length G = omega (arith, c.len-count.ensures) in
    let first : get_or G n [] ≡ f = get_or_default G n [] f lt ∙ sym c.element.ensures in
    subst (IsIndexUpto G (n + 1)) (sym c.in_ok-add_lead.ensures) (indexed_more G n c.loop-place.index c.loop-place.invariant f first)

pub returns : goal.returns
returns c =
    let all : c.loop-place.place ≡ length c.args.basis.now.elements = omega (arith, c.len-count.ensures) in
    subst (IsIndexOf c.args.basis.now.elements) (sym c.make_automaton.ensures)
    (indexed_all c.args.basis.now.elements c.loop-place.place c.loop-place.index all c.loop-place.invariant)
