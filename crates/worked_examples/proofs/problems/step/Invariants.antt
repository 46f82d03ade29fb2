use Rattle.std.proofs.Common.{◌≡◌}
use Rattle.worked_examples.proofs.problems.step.Given as goal

abbrev pub invariant-loop-kind : goal.invariant-loop-kind
invariant-loop-kind l = l.core.problem ≡ l.fn.core.problem
