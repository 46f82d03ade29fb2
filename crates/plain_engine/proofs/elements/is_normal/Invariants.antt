use Rattle.std.proofs.Common.{take}
use Rattle.ideal_laws.specs.Closure.{IsNormal}
use Rattle.plain_engine.proofs.elements.is_normal.Given as goal

abbrev pub invariant-loop-place : goal.invariant-loop-place
invariant-loop-place l = IsNormal (take l.place l.below.elements) l.word
