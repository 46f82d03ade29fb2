use Rattle.std.proofs.Common.{◌≡◌, ◌%◌, All, take}
use Rattle.symbolic_prep.proofs.ordering.has_room.Given as goal

abbrev pub invariant-loop-key : goal.invariant-loop-key
invariant-loop-key l = All (λ k. k % 1048576 ≡ 0) (take l.key-index l.keys)
