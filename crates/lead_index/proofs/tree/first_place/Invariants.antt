use Rattle.std.proofs.Common.{◌<◌, ℕ, drop}
use Rattle.lead_index.specs.Tree.{IsMissed}
use Rattle.lead_index.proofs.tree.first_place.Given as goal

abbrev pub invariant-loop-at : goal.invariant-loop-at
invariant-loop-at l = (k : ℕ) → k < l.at → IsMissed l.nodes 0 (drop k l.word)
