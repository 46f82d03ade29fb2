use Rattle.std.proofs.Common.{◌≡◌, ◌<◌, ℕ, false, get_or, true}
use Rattle.back_reduce.proofs.row.is_clear.Given as goal

abbrev pub invariant-loop-at : goal.invariant-loop-at
invariant-loop-at l = (k : ℕ) → k < l.at → l.column < k → get_or l.marks k false ≡ true → get_or l.row k 0 ≡ 0
