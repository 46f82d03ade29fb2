use Rattle.std.proofs.Common.{map, take}
use Rattle.std.specs.List.{AllZip}
use Rattle.symbolic_prep.specs.PackedWords.{ArePackedWithin}
use Rattle.symbolic_prep.proofs.multiples.packed_basis.Given as goal

abbrev pub invariant-loop-place : goal.invariant-loop-place
invariant-loop-place l = AllZip (ArePackedWithin l.packing.bits l.packing.room) (take l.place l.basis.elements) (map (λ list. list.items) l.lists.items)
