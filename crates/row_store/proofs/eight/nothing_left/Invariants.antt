use Rattle.std.proofs.Common.{◌≡◌, [], All, length}
use Rattle.row_store.proofs.eight.nothing_left.Given as goal

abbrev pub invariant-loop-i : goal.invariant-loop-i
invariant-loop-i l = record {
  count : length l.left.items ≡ l.i;
  nothing : All (λ o. (o.places.items ≡ []) × (o.residues.items ≡ [])) l.left.items;
}
