use Rattle.std.proofs.Common.{List, [], All, take}
use Rattle.free_poly.specs.declared.term.Term.{Term}
use Rattle.cofactors.specs.Rows.{IsPlusSpan, IsRow, IsTracked, IsZeroAtLeads}
use Rattle.cofactors.proofs.row.cleared.Given as goal

abbrev pub invariant-loop-leader : goal.invariant-loop-leader
invariant-loop-leader l = record {
  row : IsRow l.field l.left;
  spanned : IsPlusSpan l.field l.leaders l.fn.row.element l.left.element;
  tracked : (fs : List (List Term)) (base : List Term) → All (IsTracked l.field fs []) l.leaders → IsTracked l.field fs base l.fn.row →
      IsTracked l.field fs base l.left;
  zero : IsZeroAtLeads (take l.leader-index l.leaders) l.left.element;
}
