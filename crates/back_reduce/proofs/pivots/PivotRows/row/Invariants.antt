use Rattle.std.proofs.Common.{◌≡◌, map}
use Rattle.std.specs.List.{range_with_len}
use Rattle.back_reduce.proofs.pivots.PivotRows.row.Given as goal

abbrev pub invariant-loop-at : goal.invariant-loop-at
invariant-loop-at g l = l.residues.items ≡ map (g.Self.PivotRows.values l.self l.column) (range_with_len 0 l.at)
