use Rattle.std.proofs.Common.{◌≡◌, ◌<◌, ◌≤◌, ℕ, Some}
use Rattle.std.specs.List.{slice_get}
use Rattle.lead_index.specs.declared.tree.Node.{Node}
use Rattle.lead_index.proofs.automaton.letters_of.Given as goal

abbrev pub invariant-loop-node : goal.invariant-loop-node
invariant-loop-node l = (l.letters ≤ 256) × ((n : ℕ) (node : Node) → n < l.node-index → slice_get l.nodes n ≡ Some node → node.letter < l.letters)
