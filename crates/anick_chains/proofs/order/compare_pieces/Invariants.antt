use Rattle.std.proofs.Common.{◌≡◌, drop}
use Rattle.anick_chains.specs.Compare.{falling_cmp}
use Rattle.anick_chains.proofs.order.compare_pieces.Given as goal

abbrev pub invariant-loop-at : goal.invariant-loop-at
invariant-loop-at l = falling_cmp l.weights l.a l.b ≡ falling_cmp l.weights (drop l.at l.a) (drop l.at l.b)
