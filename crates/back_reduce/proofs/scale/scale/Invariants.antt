use Rattle.std.proofs.Common.{◌≡◌, ◌++◌, map, take, drop}
use Rattle.field_table.specs.Residues.{product_of}
use Rattle.back_reduce.proofs.scale.scale.Given as goal

abbrev pub invariant-loop-entry : goal.invariant-loop-entry
invariant-loop-entry l = l.row ≡ map (λ r. product_of l.field l.a r) (take l.entry-index l.initial.row) ++ drop l.entry-index l.initial.row
