use Rattle.std.proofs.Common.{◌≡◌, map}
use Rattle.back_reduce.specs.Pivots.{held_columns, held_row}
use Rattle.back_reduce.proofs.echelon.leaders_of.Given as goal

abbrev pub invariant-loop-column : goal.invariant-loop-column
invariant-loop-column g l = record {
  columns : map (λ h. h.column) l.leaders.items ≡ map (λ c. c) (held_columns l.column (g.P.PivotRows.holders l.pivots));
  rows : map (λ h. h.row) l.leaders.items ≡ map (held_row (g.P.PivotRows.given l.pivots).m (g.P.PivotRows.values l.pivots))
      (held_columns l.column (g.P.PivotRows.holders l.pivots));
}
