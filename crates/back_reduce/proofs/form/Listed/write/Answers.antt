use Rattle.std.proofs.Common.{ℕ, List, replicate, set, sym, ap, ap₂, ◌∙◌, arith}
use Rattle.std.proofs.lemmas.List.{get_or_read}
use Rattle.back_reduce.proofs.EntryRows.{with_entries_more}
use Rattle.back_reduce.proofs.form.Listed.write.Goals as goal

pub loop-place-preserved : goal.loop-place-preserved
loop-place-preserved c =
    let row = c.args.self.now in
    let columns = row.columns.items in
    let residues = row.residues.items in
    let i = c.loop-place.place in
    let column = get_or_read columns i c.index-in-loop-place.result.now (omega arith) c.index-in-loop-place.ensures 0 in
    let residue = get_or_read residues i c.index.result.now (omega (arith, row.entries.same)) c.index.ensures 0 in
    ap (λ (into : List ℕ). set into c.index-in-loop-place.result.now c.index.result.now) c.loop-place.invariant
    ∙ ap₂ (set _) column residue
    ∙ sym (with_entries_more (replicate row.width 0) columns residues i row.entries.same (omega arith))
