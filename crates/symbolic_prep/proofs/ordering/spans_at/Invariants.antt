use Rattle.std.proofs.Common.{◌≡◌, None, get_or, map, take}
use Rattle.symbolic_prep.proofs.ordering.spans_at.Given as goal

abbrev pub invariant-loop-number : goal.invariant-loop-number
invariant-loop-number l = l.chosen.items ≡ map (λ n. get_or l.spans n None) (take l.number-index l.order)
