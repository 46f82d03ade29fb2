use Rattle.std.proofs.Common.{◌≡◌}
use Rattle.worked_examples.proofs.problems.raced.Given as goal

abbrev pub invariant-loop : goal.invariant-loop
invariant-loop l = l.core.problem ≡ l.fn.problem
