use Rattle.std.proofs.Common.{◌≡◌, ℕ, ◌+◌, ◌*◌, ◌%◌, ◌<◌, ◌≤◌, get_or}
use Rattle.field_table.proofs.field.Field.axpy.Given as goal

abbrev pub invariant-loop-at : goal.invariant-loop-at
invariant-loop-at l =
    ((k : ℕ) → k < l.at → get_or l.y k 0 ≡ (get_or l.initial.y k 0 + l.a * get_or l.x k 0) % l.modulus)
    × ((k : ℕ) → l.at ≤ k → get_or l.y k 0 ≡ get_or l.initial.y k 0)
