use Rattle.back_reduce.proofs.ListedRows.{IsListedUpto}
use Rattle.back_reduce.proofs.form.Listed.from_residues.Given as goal

abbrev pub invariant-loop-at : goal.invariant-loop-at
invariant-loop-at l = IsListedUpto l.row l.at l.columns.items l.residues.items
