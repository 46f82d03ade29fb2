use Rattle.std.proofs.Common.{◌≡◌, []}
use Rattle.hilbert.proofs.tests.push_nothing.Given as goal

abbrev pub invariant-loop-degree : goal.invariant-loop-degree
invariant-loop-degree l = (l.basis.done ≡ l._degree) × (l.basis.elements ≡ []) × (l.basis.weights ≡ l.fn.basis.weights)
