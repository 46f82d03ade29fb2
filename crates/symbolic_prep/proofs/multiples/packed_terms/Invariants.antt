use Rattle.std.proofs.Common.{◌≤◌, All, length, take}
use Rattle.symbolic_prep.specs.PackedWords.{ArePacked}
use Rattle.symbolic_prep.proofs.multiples.packed_terms.Given as goal

abbrev pub invariant-loop-term : goal.invariant-loop-term
invariant-loop-term l = All (λ t. length t.word ≤ l.packing.room) l.terms → ArePacked l.packing.bits l.packing.room (take l.term-index l.terms) l.list.items
