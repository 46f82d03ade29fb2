use Rattle.std.proofs.Common.{◌≡◌, ◌+◌, ◌*◌, ◌^◌, ◌≤◌, drop}
use Rattle.ideal_laws.specs.Quantities.{terms_in}
use Rattle.bergman_cli.specs.Make.{coefficient_sum}
use Rattle.bergman_cli.proofs.make.totals.Given as goal

abbrev pub invariant-loop-place : goal.invariant-loop-place
invariant-loop-place l = record {
  terms : l.count + terms_in (drop l.place l.basis.elements) ≡ terms_in l.basis.elements;
  few : l.count ≤ l.place * 2 ^ 64;
  total : l.sum + coefficient_sum (drop l.place l.basis.elements) ≡ coefficient_sum l.basis.elements;
  small : l.sum ≤ l.place * 2 ^ 96;
}
