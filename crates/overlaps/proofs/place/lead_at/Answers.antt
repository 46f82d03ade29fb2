use Rattle.std.proofs.Common.{◌≡◌, [], length, ap, arith, sym, ◌∙◌}
use Rattle.std.proofs.lemmas.List.{get_or_default}
use Rattle.overlaps.specs.Walk.{lead_word}
use Rattle.free_poly.specs.Poly.{lead_or_none}
use Rattle.overlaps.proofs.Places.{lead_word-small}
use Rattle.free_poly.proofs.Leads.{lead-is}
use Rattle.overlaps.proofs.place.lead_at.Goals as goal

pub returns-in-Some-clause-small : goal.returns-in-Some-clause-small
returns-in-Some-clause-small c =
    let b = c.args.basis.now in
    let is : c.letters.result.now ≡ lead_word b.elements c.args.place =
    c.letters.ensures ∙ sym (lead-is c.element.result.now _ (sym c.in-Some.ensures))
    ∙ ap lead_or_none (c.element.ensures ∙ get_or_default b.elements c.args.place _ [] c.requires) in
    omega (arith, ap length is, lead_word-small b c.done-done.ensures.kept c.args.place c.requires)
