use Rattle.std.specs.Iterator.Adapters.{rev_source}
use Rattle.free_poly.proofs.Entries.{Unloads}
use Rattle.free_poly.proofs.sum.falling_terms.Given as goal

abbrev pub invariant-loop-word : goal.invariant-loop-word
invariant-loop-word l = Unloads l.fn.totals.entries (rev_source l.word-iterator) l.terms.items
