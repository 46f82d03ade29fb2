use Rattle.std.proofs.Common.{◌≡◌, ◌++◌}
use Rattle.anick_chains.specs.Listed.{with_degree}
use Rattle.anick_chains.specs.Walk.{continued}
use Rattle.anick_chains.proofs.longer.push_each.Given as goal

abbrev pub invariant-loop-piece : goal.invariant-loop-piece
invariant-loop-piece l = l.block.items ≡ l.fn.block.items ++ with_degree l.degree (continued l.front l.yielded)
