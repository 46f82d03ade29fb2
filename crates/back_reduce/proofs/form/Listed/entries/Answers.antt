use Rattle.std.proofs.Common.{List, ◌++◌, get_or, sym, ap, ◌∙◌, arith, append-nil}
use Rattle.std.proofs.lemmas.List.{get_or_read}
use Rattle.back_reduce.specs.declared.entry.Entry.{Entry}
use Rattle.back_reduce.specs.Listings.{entry_at}
use Rattle.back_reduce.proofs.RowEntries.{entries_of-more, entries_of-zeros, entry_at-other, entry_at-zero}
use Rattle.back_reduce.proofs.form.Listed.entries.Goals as goal
use Rattle.back_reduce.proofs.form.Listed.entries.Goals.{then-residue-ne0+in_ok-push, else-residue-ne0}

pub loop-place-init : goal.loop-place-init
loop-place-init c = c.in_ok-entries.ensures.items ∙ sym (entries_of-zeros c.args.self.now.width)

pub loop-place-preserved : goal.loop-place-preserved
loop-place-preserved c =
    let row = c.args.self.now in
    let columns = row.columns.items in
    let residues = row.residues.items in
    let i = c.loop-place.place in
    let before = c.loop-place.entries.items in
    let column = get_or_read columns i c.index.result.now (omega arith) c.index.ensures 0 in
    let residue = get_or_read residues i c.index-residue.result.now (omega (arith, row.entries.same)) c.index-residue.ensures 0 in
    let more = ap (λ (l : List Entry). l ++ entry_at (get_or columns i 0) (get_or residues i 0)) c.loop-place.invariant
    ∙ sym (entries_of-more row.width columns residues i row.entries (omega arith)) in
    elim c.if-residue-ne0.branch [
      | then-residue-ne0+in_ok-push w ↦ ap (λ v. v.items) w.entries-is ∙ w.in_ok-push.ensures.items
          ∙ ap (λ (l : List Entry). before ++ l) (sym (entry_at-other (get_or columns i 0) (get_or residues i 0) _
          (λ none. w.if-residue-ne0.true (residue ∙ none)) column residue)) ∙ more
      | else-residue-ne0 w ↦ ap (λ v. v.items) w.entries-is ∙ sym (append-nil before)
          ∙ ap (λ (l : List Entry). before ++ l) (sym (entry_at-zero (get_or columns i 0) (get_or residues i 0)
          (sym residue ∙ w.if-residue-ne0.false))) ∙ more
    ]
