use Rattle.std.proofs.Common.{◌≡◌, ◌-◌, ◌≤◌, ◌++◌, drop, length}
use Rattle.anick_chains.specs.Texts.{chain_text}
use Rattle.anick_chains.proofs.text.chain_text.Given as goal

abbrev pub invariant-loop-at : goal.invariant-loop-at
invariant-loop-at l = (l.at ≤ length l.chains) × (l.text.items ++ chain_text l.alphabet.names l.list (drop l.at l.chains)
    ≡ chain_text l.alphabet.names l.list l.chains)

abbrev pub decreases-loop-at : goal.decreases-loop-at
decreases-loop-at l = length l.chains - l.at
