use Rattle.std.proofs.Common.{◌≡◌, map, take}
use Rattle.symbolic_prep.specs.Numbers.{residues_of}
use Rattle.symbolic_prep.proofs.residues.residues_of_basis.Given as goal

abbrev pub invariant-loop-place : goal.invariant-loop-place
invariant-loop-place l = l.residues ≡ map residues_of (take l.place l.basis.elements)
