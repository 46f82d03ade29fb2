use Rattle.std.proofs.Common.{◌≡◌, map, take}
use Rattle.row_laws.specs.Elements.{term_in}
use Rattle.row_laws.proofs.element.terms_of.Given as goal

abbrev pub invariant-loop-entry : goal.invariant-loop-entry
invariant-loop-entry l = l.terms.items ≡ map (term_in l.columns) (take l.entry-index l.entries)
