use Rattle.std.proofs.Common.{◌≤◌, ◌-◌, length}
use Rattle.std.specs.List.{Contains}
use Rattle.anick_chains.specs.BasisTips.{leads_of}
use Rattle.anick_chains.specs.Tallies.{AreTalliedOf}
use Rattle.anick_chains.proofs.FirstMany.{AreFewBelow}
use Rattle.anick_chains.proofs.counting.chain_counts.Given as goal

abbrev pub invariant-loop-degree : goal.invariant-loop-degree
invariant-loop-degree l = record {
  tallied : AreTalliedOf l.basis (l.degree - 1) l.total l.tallies.items l.counts.items;
  within : l.total ≤ l.most;
  before : AreFewBelow (Contains (leads_of l.basis.elements)) (length l.basis.weights) l.basis.weights l.most l.degree;
}
