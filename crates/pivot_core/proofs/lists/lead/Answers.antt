use Rattle.pivot_core.proofs.Monic.{lead_at-further, lead_at-here}
use Rattle.pivot_core.proofs.lists.lead.Goals as goal

pub returns-then-row-at-ne0 : goal.returns-then-row-at-ne0
returns-then-row-at-ne0 c = (lead_at-here c.args.row.now c.loop-at.at c.loop-at.invariant c.if-row-at-ne0.true, c.loop-at-test.true)

pub loop-at-preserved : goal.loop-at-preserved
loop-at-preserved c = lead_at-further c.args.row.now c.loop-at.at c.loop-at.invariant c.loop-at-test.true c.if-row-at-ne0.false
