use Rattle.std.proofs.Common.{arith}
use Rattle.pivot_core.specs.Views.{sight_of}
use Rattle.pivot_core.proofs.MetRows.{meets_last_put, meets_put}
use Rattle.pivot_core.proofs.view.View.put.Goals as goal

pub returns-then-at-m-clause-met : goal.returns-then-at-m-clause-met
returns-then-at-m-clause-met c = λ old. meets_put c.args.problem.now (sight_of c.args.self.now) old c.requires.phase c.if-at-m.true

pub returns-clause-met : goal.returns-clause-met
returns-clause-met c = λ old. meets_last_put c.args.problem.now (sight_of c.args.self.now) old c.requires.phase (omega (arith, c.if-at-m.false))
