use Rattle.std.proofs.Common.{ap, ◌∙◌}
use Rattle.pivot_core.specs.History.{merged}
use Rattle.degree_loop.proofs.CoreAccounts.{scheduled_calls}
use Rattle.degree_loop.proofs.core_engine.CoreEnginePivotFinder.find.Goals as goal

pub returns-clause-calls : goal.returns-clause-calls
returns-clause-calls g c =
    scheduled_calls c.args.problem c.args.self.now.workers c.args.self.now.schedule c.crew_for-crew.result c.crew_for-crew.ensures
    c.in_ok-pivots.pivots c.in_ok-pivots.ensures
    c.in_ok-calls.calls (c.in_ok-calls.ensures ∙ ap merged c.logs.ensures)
