use Rattle.std.proofs.Common.{All, ap, ◌∙◌, length, sym, subst}
use Rattle.back_reduce.specs.Rows.{IsRow}
use Rattle.back_reduce.proofs.RowLists.{cut_rows-are, length-cut_rows}
use Rattle.back_reduce.proofs.problem.Problem.from_cells.Goals as goal

pub invariant_of-result : goal.invariant_of-result
invariant_of-result c = record {
  count = ap length c.in_ok-rows.ensures ∙ length-cut_rows c.args.m c.args.n c.args.cells.now;
  each = subst (All (IsRow c.args.modulus c.args.m)) (sym c.in_ok-rows.ensures)
      (cut_rows-are c.args.modulus c.args.m c.args.n c.args.cells.now c.requires.shape c.requires.residues);
  few = c.requires.few;
}
