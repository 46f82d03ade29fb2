use Rattle.std.proofs.Common.{◌++◌, ℕ, Err, List, ap, ◌∙◌}
use Rattle.words.proofs.Faults.{same_fault}
use Rattle.anick_chains.specs.Listed.{with_degree}
use Rattle.anick_chains.proofs.Onward.{listed_letters, onward_all, onward_many}
use Rattle.anick_chains.proofs.longer.push_onward.Goals as goal

pub push_longer-requires-clause-letters : goal.push_longer-requires-clause-letters
push_longer-requires-clause-letters c =
    listed_letters c.args.tips.now.basis.now c.requires.tips.kept c.requires.tips.factor_free _ c.args.found.now c.requires.below
    c.loop-chain.chain-index c.chain-item.result c.loop-chain-test.true c.chain-item.is

pub returns-in_err-push_longer-clause-many : goal.returns-in_err-push_longer-clause-many
returns-in_err-push_longer-clause-many c = λ d e.
    let b = c.args.tips.now.basis.now in
    let m = c.in_err-push_longer.ensures.many d (ap Err (same_fault c.from_residual.result _ _ c.from_residual.ensures.1 e)) in (
      m.0,
      onward_many b.weights b.elements c.args.degree c.args.found.now c.args.block.now.items c.loop-chain.block.items c.args.room
          c.loop-chain.chain-index c.chain-item.result c.loop-chain-test.true c.chain-item.is
          c.loop-chain.invariant.so_far m.1,
    )

pub returns-clause-onward : goal.returns-clause-onward
returns-clause-onward c =
    let b = c.args.tips.now.basis.now in
    c.loop-chain.invariant.so_far ∙ ap (λ (cs : List (List (List ℕ))). c.args.block.now.items ++ with_degree c.args.degree cs)
    (onward_all b.weights b.elements c.args.degree c.args.found.now c.loop-chain.chain-index c.loop-chain-test.false)
