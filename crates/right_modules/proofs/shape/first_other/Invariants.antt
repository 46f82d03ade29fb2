use Rattle.std.proofs.Common.{All, take}
use Rattle.right_modules.specs.Module.{IsShaped}
use Rattle.right_modules.proofs.shape.first_other.Given as goal

abbrev pub invariant-loop-place : goal.invariant-loop-place
invariant-loop-place l = All (IsShaped l.free) (take l.place l.relations)
