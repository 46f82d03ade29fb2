use Rattle.std.proofs.Common.{[], All, map, take}
use Rattle.cofactors.specs.ProductList.{triple_terms}
use Rattle.cofactors.specs.Rows.{AreLeaders, IsPlusSpan, IsTracked}
use Rattle.cofactors.proofs.leaders.leaders_of.Given as goal

abbrev pub invariant-loop-place : goal.invariant-loop-place
invariant-loop-place l = record {
  leaders : AreLeaders l.field l.leaders.items;
  tracked : All (IsTracked l.field (map (triple_terms l.presentation.relations) l.triples) []) l.leaders.items;
  spanned : All (λ f. IsPlusSpan l.field l.leaders.items f []) (take l.place (map (triple_terms l.presentation.relations) l.triples));
}
