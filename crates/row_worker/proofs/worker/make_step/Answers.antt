use Rattle.pivot_core.specs.declared.event.Reply.TheVariants as reply
use Rattle.pivot_table.specs.Workers.{begun}
use Rattle.row_worker.proofs.Counts.{by_look}
use Rattle.row_worker.proofs.worker.make_step.Goals as goal

pub returns-in-Fresh-clause-taken : goal.returns-in-Fresh-clause-taken
returns-in-Fresh-clause-taken g c = begun c.draw.new.worker (reply.Drew c.draw.result) c.draw.ensures.taken

pub returns-in-Looking-clause-taken : goal.returns-in-Looking-clause-taken
returns-in-Looking-clause-taken g c = by_look c.args.race.now c.args.worker.now c.look.new.worker c.look.result c.look.ensures.taken

pub returns-in-Putting-clause-taken : goal.returns-in-Putting-clause-taken
returns-in-Putting-clause-taken g c = begun c.put.new.worker reply.Stored c.put.ensures.taken

pub returns-in-Claiming-clause-taken : goal.returns-in-Claiming-clause-taken
returns-in-Claiming-clause-taken g c = begun c.claim.new.worker (reply.Claimed c.claim.result) c.claim.ensures.taken
