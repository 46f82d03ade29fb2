use Rattle.std.proofs.Common.{List}
use Rattle.free_poly.specs.declared.term.Term.{Term}
use Rattle.hilbert.specs.Series.{AreCounts, IndexesLeads}
use Rattle.hilbert.proofs.Steps.{IsNextHeld}
use Rattle.hilbert.proofs.numbers.numbers_upto.Given as goal

abbrev pub invariant-loop-degree : goal.invariant-loop-degree
invariant-loop-degree l = ((G : List (List Term)) → IndexesLeads G l.index → AreCounts l.alphabet.weights G l.most l.degree l.numbers.items)
    × IsNextHeld l.alphabet.weights l.index l.degree l.held.items
