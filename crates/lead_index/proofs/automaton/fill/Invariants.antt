use Rattle.std.proofs.Common.{All}
use Rattle.lead_index.specs.Automaton.{IsAutomaton, IsState}
use Rattle.lead_index.proofs.automaton.fill.Given as goal

abbrev pub invariant-loop-letter : goal.invariant-loop-letter
invariant-loop-letter l = IsAutomaton l.nodes l.letters l.moves.items × All (IsState l.nodes) l.states.items
