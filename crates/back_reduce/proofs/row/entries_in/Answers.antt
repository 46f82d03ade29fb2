use Rattle.std.proofs.Common.{List, ◌++◌, get_or, refl, sym, ap, ◌∙◌, arith, append-nil}
use Rattle.back_reduce.specs.declared.entry.Entry.{Entry}
use Rattle.back_reduce.specs.Listings.{entry_at}
use Rattle.back_reduce.proofs.RowEntries.{entries_of-take_more, entry_at-other, entry_at-zero}
use Rattle.back_reduce.proofs.row.entries_in.Goals as goal
use Rattle.back_reduce.proofs.row.entries_in.Goals.{then-residue-ne0+in_ok-push, else-residue-ne0}

pub loop-column-preserved : goal.loop-column-preserved
loop-column-preserved c =
    let row = c.args.row.now in
    let k = c.loop-column.column in
    let before = c.loop-column.entries.items in
    let more = ap (λ (l : List Entry). l ++ entry_at k (get_or row k 0)) c.loop-column.invariant ∙ sym (entries_of-take_more row k (omega arith)) in
    elim c.if-residue-ne0.branch [
      | then-residue-ne0+in_ok-push w ↦ ap (λ v. v.items) w.entries-is ∙ w.in_ok-push.ensures.items
          ∙ ap (λ (l : List Entry). before ++ l) (sym (entry_at-other k (get_or row k 0) _ w.if-residue-ne0.true refl refl)) ∙ more
      | else-residue-ne0 w ↦ ap (λ v. v.items) w.entries-is ∙ sym (append-nil before)
          ∙ ap (λ (l : List Entry). before ++ l) (sym (entry_at-zero k (get_or row k 0) w.if-residue-ne0.false)) ∙ more
    ]
