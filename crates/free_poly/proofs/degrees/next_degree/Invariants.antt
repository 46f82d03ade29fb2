use Rattle.std.proofs.Common.{take}
use Rattle.free_poly.proofs.DegreeLemmas.{IsNextAnswer}
use Rattle.free_poly.proofs.degrees.next_degree.Given as goal

abbrev pub invariant-loop-term : goal.invariant-loop-term
invariant-loop-term l = IsNextAnswer l.alphabet.weights (take l.term-index l.terms) l.first l.next
