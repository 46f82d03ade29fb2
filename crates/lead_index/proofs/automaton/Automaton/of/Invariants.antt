use Rattle.std.proofs.Common.{All}
use Rattle.lead_index.specs.Automaton.{IsAutomaton, IsState}
use Rattle.lead_index.proofs.automaton.Automaton.of.Given as goal

abbrev pub invariant-loop-next : goal.invariant-loop-next
invariant-loop-next l = IsAutomaton l.nodes l.letters l.moves.items × All (IsState l.nodes) l.states.items
