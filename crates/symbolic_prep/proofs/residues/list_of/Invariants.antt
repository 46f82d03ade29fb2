use Rattle.std.proofs.Common.{◌≡◌, take}
use Rattle.symbolic_prep.specs.Numbers.{residues_of}
use Rattle.symbolic_prep.proofs.residues.list_of.Given as goal

abbrev pub invariant-loop-term : goal.invariant-loop-term
invariant-loop-term l = l.list.items ≡ residues_of (take l.term-index l.terms)
