use Rattle.std.proofs.Common.{◌≡◌, ◌%◌, ℕ, List}
use Rattle.std.specs.Prelude.{unwrap_or}
use Rattle.std.specs.BTreeMap.{get}
use Rattle.words.specs.Order.{letterwise_cmp}
use Rattle.free_poly.specs.Terms.{total_at}
use Rattle.free_poly.proofs.sum.totals_of.Given as goal

abbrev pub invariant-loop-term : goal.invariant-loop-term
invariant-loop-term l = (w : List ℕ) → unwrap_or (get letterwise_cmp l.totals w) 0 ≡ total_at l.yielded w % l.field
