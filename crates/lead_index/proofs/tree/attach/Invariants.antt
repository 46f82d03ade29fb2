use Rattle.std.proofs.Common.{◌≡◌, ◌≤◌, length, ◌-◌, vec_capacity, vec_len}
use Rattle.lead_index.proofs.Ways.{IsWay}
use Rattle.lead_index.proofs.tree.attach.Given as goal

abbrev pub invariant-loop-place : goal.invariant-loop-place
invariant-loop-place l =
    (l.nodes.items ≡ l.fn.nodes.items) × (vec_len l.nodes ≡ vec_len l.fn.nodes) × (vec_capacity l.nodes ≡ vec_capacity l.fn.nodes)
    × (l.place ≤ length l.letters)
    × IsWay l.fn.nodes.items l.letters l.node l.place

abbrev pub decreases-loop-place : goal.decreases-loop-place
decreases-loop-place l = vec_len l.nodes - l.node
