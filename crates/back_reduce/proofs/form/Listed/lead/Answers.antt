use Rattle.std.proofs.Common.{sym, ◌∙◌, arith, subst}
use Rattle.std.proofs.lemmas.List.{get_or_read}
use Rattle.back_reduce.specs.Entries.{entries_row, IsLead}
use Rattle.back_reduce.proofs.ListedRows.{lead_listed, none_listed}
use Rattle.back_reduce.proofs.form.Listed.lead.Goals as goal

pub returns-then-index-ne0 : goal.returns-then-index-ne0
returns-then-index-ne0 c =
    let row = c.args.self.now in
    let columns = row.columns.items in
    let residues = row.residues.items in
    let i = c.loop-place.place in
    let column = get_or_read columns i c.index-then-index-ne0.result.now (omega arith) c.index-then-index-ne0.ensures 0 in
    let residue = get_or_read residues i c.index.result.now (omega (arith, row.entries.same)) c.index.ensures 0 in
    subst (IsLead (entries_row row.width columns residues)) (sym column)
    (lead_listed row.width columns residues i row.entries (omega arith) (λ none. c.if-index-ne0.true (residue ∙ none)) c.loop-place.invariant)

pub returns : goal.returns
returns c =
    let row = c.args.self.now in
    none_listed row.width row.columns.items row.residues.items (λ i within. c.loop-place.invariant i (omega arith))
