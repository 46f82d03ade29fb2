use Rattle.std.proofs.Common.{rules}
use Rattle.std.proofs.lemmas.List.MinMax.{ranks_by}
use Rattle.std.proofs.lemmas.List.Sorted.{answers_always}
use Rattle.overlaps.specs.declared.obstruction.Obstruction.{Obstruction}
use Rattle.std.specs.Ordering.{is_lt}
use Rattle.overlaps.specs.Walk.{found_cmp}
use Rattle.overlaps.proofs.Sorted.{found_total}
use Rattle.overlaps.proofs.listing.sort.Goals as goal

pub returns-clause-sorted : goal.returns-clause-sorted
returns-clause-sorted c =
    c.sort_unstable_by.ensures.sorted (λ x y. is_lt (found_cmp x y)) (ranks_by found_total (λ (x : Obstruction). x))
    (answers_always _ _ _ (λ f a r g h. search rules))
