use Rattle.std.proofs.Common.{◌≡◌, ℕ, ◌<◌, List, All, map, sym, ap, ◌∙◌, subst}
use Rattle.std.proofs.lemmas.List.{with_items_is}
use Rattle.std.specs.Vec.{with_items}
use Rattle.field_table.specs.Residues.{product_of}
use Rattle.back_reduce.specs.Entries.{entries_row}
use Rattle.back_reduce.proofs.EntryRows.{entries-residues, map-entries_row}
use Rattle.back_reduce.proofs.Vectors.{scaled_zero}
use Rattle.back_reduce.proofs.form.Listed.scaled.Goals as goal

pub scale-requires-clause-residues : goal.scale-requires-clause-residues
scale-requires-clause-residues c =
    let row = c.args.self.now in
    let is : c.as_mut_slice.result.now ≡ row.residues.items = c.as_mut_slice.ensures.value ∙ c.in_ok-residues.ensures.items ∙ c.as_slice-2.ensures.value in
    subst (All (λ r. r < c.args.field.now)) (sym is)
    (entries-residues c.args.field.now row.width row.columns.items row.residues.items row.entries c.requires.residues)

pub returns : goal.returns
returns c =
    let row = c.args.self.now in
    let f : ℕ → ℕ = λ r. product_of c.args.field.now c.args.a r in
    let columns : c.in_ok-columns.columns.items ≡ row.columns.items = c.in_ok-columns.ensures.items ∙ c.as_slice.ensures.value in
    let is : c.as_mut_slice.result.now ≡ row.residues.items = c.as_mut_slice.ensures.value ∙ c.in_ok-residues.ensures.items ∙ c.as_slice-2.ensures.value in
    let products : c.scale.new.row ≡ map f row.residues.items = c.scale.ensures ∙ ap (map f) is in
    let read = with_items_is c.in_ok-residues.residues c.scale.new.row (c.scale.auto.row ∙ c.as_mut_slice.ensures.len) in
    ap (λ (l : List ℕ). entries_row row.width l (with_items c.in_ok-residues.residues c.scale.new.row).items) columns
    ∙ ap (entries_row row.width row.columns.items) (read ∙ products)
    ∙ sym (map-entries_row f row.width row.columns.items row.residues.items (scaled_zero c.args.field.now c.args.a))
