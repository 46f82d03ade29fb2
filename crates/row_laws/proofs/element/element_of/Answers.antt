use Rattle.std.proofs.Common.{◌≡◌, ◌<◌, All, length, map, sym, ap, ◌∙◌, subst}
use Rattle.free_poly.specs.Poly.{IsPolynomial, element_on}
use Rattle.back_reduce.specs.declared.entry.Entry.{Entry}
use Rattle.row_laws.specs.Elements.{term_in}
use Rattle.row_laws.proofs.EntryTerms.{element_by_entries, entries_within}
use Rattle.row_laws.proofs.OnColumns.{element_on-polynomial}
use Rattle.row_laws.proofs.element.element_of.Goals as goal

pub terms_of-requires : goal.terms_of-requires
terms_of-requires c =
    subst (All (λ (e : Entry). e.column < length c.args.columns.now)) (sym (c.as_slice.ensures.value ∙ c.in_ok-entries.ensures))
    (entries_within (length c.args.columns.now) c.args.row.now c.requires.width)

pub from_falling-requires : goal.from_falling-requires
from_falling-requires c =
    let columns = c.args.columns.now in
    let row = c.args.row.now in
    let are : c.in_ok-terms.terms.items ≡ element_on columns row =
    c.in_ok-terms.ensures ∙ ap (map (term_in columns)) (c.as_slice.ensures.value ∙ c.in_ok-entries.ensures)
    ∙ element_by_entries columns row c.requires.width in
    subst IsPolynomial (sym are) (element_on-polynomial columns row c.requires.falling)

pub returns : goal.returns
returns c =
    let columns = c.args.columns.now in
    c.from_falling.ensures ∙ c.in_ok-terms.ensures ∙ ap (map (term_in columns)) (c.as_slice.ensures.value ∙ c.in_ok-entries.ensures)
    ∙ element_by_entries columns c.args.row.now c.requires.width
