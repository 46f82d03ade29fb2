use Rattle.std.proofs.Common.{◌≡◌, ◌++◌, take}
use Rattle.std.specs.List.{flat_map}
use Rattle.anick_chains.specs.Texts.{chain_line}
use Rattle.anick_chains.proofs.text.push_lines.Given as goal

abbrev pub invariant-loop-chain : goal.invariant-loop-chain
invariant-loop-chain l = l.text.items ≡ l.fn.text.items ++ flat_map (λ c. chain_line l.alphabet.names c.pieces) (take l.chain-index l.chains)
