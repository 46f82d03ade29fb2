use Rattle.std.proofs.Common.{◌≡◌, ℕ, List}
use Rattle.ideal_laws.specs.declared.account.Account.{Account}
use Rattle.ideal_laws.specs.declared.presentation.Presentation.{Presentation}
use Rattle.ideal_laws.specs.Engine.{Elements}
use Rattle.bg_io.specs.Ends.{CountsGained}
use Rattle.job_steps.specs.Gains.{GainsAll}
use Rattle.job_steps.specs.Printing.{task_of}
use Rattle.job_steps.specs.States.{state_of, teller_state}
use Rattle.job_steps.specs.Traces.{OfTrace, Tells}
use Rattle.job_steps.proofs.Printed.{Stands}
use Rattle.job_steps.proofs.print.print_basis.Given as goal

abbrev pub invariant-loop-degree : goal.invariant-loop-degree
invariant-loop-degree g l =
    (text : List ℕ)
    × Stands (task_of l.field l.given (g.E.DegreeEngine.kinds l.fn.engine) l.asked) l._degree l.basis text
    × GainsAll (state_of g.K.Sink l.fn.out) (state_of g.K.Sink l.out) text
    × (g.E.DegreeEngine.kinds l.engine ≡ g.E.DegreeEngine.kinds l.fn.engine)
    × ((p : ℕ) (rs : Presentation) (b : Elements) (e : ℕ) (a : Account) → g.E.DegreeEngine.may_account l.engine p rs b e a →
    g.E.DegreeEngine.may_account l.fn.engine p rs b e a)
    × OfTrace (g.E.DegreeEngine.may_account l.fn.engine) (task_of l.field l.given (g.E.DegreeEngine.kinds l.fn.engine) l.asked) l.asked.trace l._degree
    (Tells (teller_state g.T.Sink l.fn.teller) (teller_state g.T.Sink l.teller))
    × CountsGained (g.K.Sink.held l.fn.out) (g.K.Sink.held l.out) (g.K.Sink.calls l.fn.out) (g.K.Sink.calls l.out) 0
    × (l.teller.err.ghost_name ≡ l.fn.teller.err.ghost_name)
