use Rattle.std.proofs.Common.{◌≡◌, take}
use Rattle.anick_chains.specs.Tallies.{number_of}
use Rattle.anick_chains.proofs.counting.number_of.Given as goal

abbrev pub invariant-loop-tally : goal.invariant-loop-tally
invariant-loop-tally l = l.number ≡ number_of l.size (take l.tally-index l.tallies)
