use Rattle.std.proofs.Common.{◌≡◌, ◌+◌, ◌*◌, ◌^◌, ◌≤◌, drop, sum_by}
use Rattle.bergman_cli.proofs.make.coefficients_in.Given as goal

abbrev pub invariant-loop-term : goal.invariant-loop-term
invariant-loop-term l = record {
  value : l.sum + sum_by (λ t. t.coefficient) (drop l.term-index l.terms) ≡ sum_by (λ t. t.coefficient) l.terms;
  small : l.sum ≤ l.term-index * 2 ^ 32;
}
