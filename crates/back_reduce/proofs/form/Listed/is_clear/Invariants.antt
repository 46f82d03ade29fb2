use Rattle.std.proofs.Common.{◌≡◌, ◌<◌, ℕ, false, get_or, true}
use Rattle.back_reduce.proofs.form.Listed.is_clear.Given as goal

abbrev pub invariant-loop-place : goal.invariant-loop-place
invariant-loop-place l = (i : ℕ) → i < l.place → l.column < get_or l.self.columns.items i 0 →
    get_or l.marks (get_or l.self.columns.items i 0) false ≡ true → get_or l.self.residues.items i 0 ≡ 0
