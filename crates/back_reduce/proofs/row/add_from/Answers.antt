use Rattle.std.proofs.Common.{length, refl, ◌-◌}
use Rattle.back_reduce.proofs.Vectors.{added_from}
use Rattle.back_reduce.proofs.row.add_from.Goals as goal

pub returns : goal.returns
returns c =
    let row = c.args.row.now in
    let into = c.args.into.now in
    added_from c.args.field.now c.args.a c.args.from (length into - c.args.from) (length row - c.args.from) into row c.axpy_lanes.new.y
    c.requires.into_residues c.requires.width c.requires.within c.requires.before refl refl c.axpy_lanes.ensures.sums
