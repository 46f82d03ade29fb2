use Rattle.std.proofs.Common.{ℕ, ◌<◌, ◌≤◌, get_or}
use Rattle.anick_chains.specs.declared.chain.Chain.{Chain}
use Rattle.anick_chains.specs.Texts.{HasShape}
use Rattle.anick_chains.proofs.text.block_end.Given as goal

abbrev pub invariant-loop-end : goal.invariant-loop-end
invariant-loop-end l = (k : ℕ) (c : Chain) → l.at ≤ k → k < l.end → HasShape l.degree l.size (get_or l.chains k c)
