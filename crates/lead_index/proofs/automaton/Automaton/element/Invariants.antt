use Rattle.std.proofs.Common.{length, ◌-◌}
use Rattle.lead_index.proofs.Walks.{IsWalk}
use Rattle.lead_index.proofs.automaton.Automaton.element.Given as goal

abbrev pub invariant-loop-place : goal.invariant-loop-place
invariant-loop-place l = IsWalk l.nodes l.letters l.node l.place

abbrev pub decreases-loop-place : goal.decreases-loop-place
decreases-loop-place l = length l.letters - l.place
