use Rattle.std.proofs.Common.{false, ℕ, get_or, ap, ◌∙◌, arith}
use Rattle.back_reduce.proofs.EntryRows.{entries_row_zero}
use Rattle.back_reduce.proofs.form.Listed.is_clear.Goals as goal

pub returns : goal.returns
returns c _ k after marked =
    let row = c.args.self.now in
    entries_row_zero row.width row.columns.items row.residues.items k (λ i within is. c.loop-place.invariant i (omega arith)
    (omega (arith, after, is)) (ap (λ (n : ℕ). get_or c.args.marks.now n false) is ∙ marked))
