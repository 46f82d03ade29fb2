use Rattle.std.proofs.Common.{◌<◌, ap, ◌∙◌, arith, get_or, length, set}
use Rattle.std.proofs.lemmas.List.{get_or_default}
use Rattle.std.proofs.lemmas.List.Edits.{map_over_more}
use Rattle.field_table.specs.Residues.{product_of}
use Rattle.back_reduce.proofs.scale.scale.Goals as goal

pub loop-entry-preserved : goal.loop-entry-preserved
loop-entry-preserved c =
    let row = c.loop-entry.row in
    let k = c.loop-entry.entry-index in
    let within : k < length row = omega arith in
    ap (set row k) c.scaled.ensures
    ∙ map_over_more (λ r. product_of c.args.field.now c.args.a r) c.args.row.now row k (get_or row k 0) (omega arith) c.loop-entry.invariant
    (get_or_default row k 0 (get_or row k 0) within)
