use Rattle.std.proofs.Common.{◌≡◌, ◌++◌}
use Rattle.anick_chains.specs.Walk.{end_of}
use Rattle.anick_chains.proofs.Members.{joined}
use Rattle.anick_chains.proofs.next.push_ends.Given as goal

abbrev pub invariant-loop-place : goal.invariant-loop-place
invariant-loop-place l = l.found.items ≡ l.fn.found.items ++ joined (end_of l.tips.basis.now.weights l.tips.basis.now.elements l.piece l.before l.d) l.place
