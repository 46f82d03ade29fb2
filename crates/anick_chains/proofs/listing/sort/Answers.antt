use Rattle.std.proofs.Common.{rules}
use Rattle.std.proofs.lemmas.List.MinMax.{ranks_by}
use Rattle.std.proofs.lemmas.Fn.{always_returns_same}
use Rattle.anick_chains.specs.declared.chain.Chain.{Chain}
use Rattle.std.specs.Ordering.{is_lt}
use Rattle.anick_chains.specs.Compare.{pieces_cmp}
use Rattle.anick_chains.proofs.ChainOrder.{pieces_cmp_total}
use Rattle.anick_chains.proofs.listing.sort.Goals as goal

pub returns-clause-sorted : goal.returns-clause-sorted
returns-clause-sorted c =
    c.sort_unstable_by.ensures.sorted (λ x y. is_lt (pieces_cmp c.args.weights.now x.pieces y.pieces))
    (ranks_by (pieces_cmp_total c.args.weights.now) (λ (x : Chain). x.pieces))
    (always_returns_same _ _ _ (λ a r q k. (search rules, search rules)))
