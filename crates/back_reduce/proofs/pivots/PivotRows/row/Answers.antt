use Rattle.back_reduce.proofs.HeldLeaders.{values_more}
use Rattle.back_reduce.proofs.pivots.PivotRows.row.Goals as goal

pub loop-at-preserved : goal.loop-at-preserved
loop-at-preserved g c =
    values_more (g.Self.PivotRows.values c.args.self.now c.args.column) c.loop-at.at c.value.result c.push.new.self.items c.loop-at.residues.items
    c.in_ok-push.ensures.items c.loop-at.invariant c.value.ensures
