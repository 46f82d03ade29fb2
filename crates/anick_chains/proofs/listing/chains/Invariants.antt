use Rattle.std.proofs.Common.{◌≤◌, ◌-◌, length}
use Rattle.std.specs.List.{Contains}
use Rattle.anick_chains.specs.BasisTips.{leads_of}
use Rattle.anick_chains.specs.Listed.{AreListedOf}
use Rattle.anick_chains.proofs.FirstMany.{AreFewBelow}
use Rattle.anick_chains.proofs.listing.chains.Given as goal

abbrev pub invariant-loop-degree : goal.invariant-loop-degree
invariant-loop-degree l = record {
  listed : AreListedOf l.basis (l.degree - 1) l.found.items;
  within : length l.found.items ≤ l.most;
  before : AreFewBelow (Contains (leads_of l.basis.elements)) (length l.basis.weights) l.basis.weights l.most l.degree;
}
