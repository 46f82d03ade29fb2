use Rattle.std.proofs.Common.{length, sym, ap, ◌∙◌}
use Rattle.row_store.proofs.Held.{length-cells_of}
use Rattle.row_store.proofs.left.Left.into_row.Goals as goal

pub write-requires : goal.write-requires
write-requires c =
    c.as_mut_slice.ensures.len ∙ c.in_ok-residues.ensures.len ∙ sym (ap length c.from_entries-row.ensures ∙ length-cells_of c.args.m c.args.self)
