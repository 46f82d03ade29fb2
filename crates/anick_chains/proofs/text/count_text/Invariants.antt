use Rattle.std.proofs.Common.{◌≡◌, take}
use Rattle.anick_chains.specs.Tallies.{count_text}
use Rattle.anick_chains.proofs.text.count_text.Given as goal

abbrev pub invariant-loop-count : goal.invariant-loop-count
invariant-loop-count l = l.text.items ≡ count_text (take l.count-index l.counts)
