use Rattle.lead_index.proofs.Indexing.{IsIndexUpto}
use Rattle.lead_index.proofs.basis_index.index_of.Given as goal

abbrev pub invariant-loop-place : goal.invariant-loop-place
invariant-loop-place l = IsIndexUpto l.basis.elements l.place l.index
