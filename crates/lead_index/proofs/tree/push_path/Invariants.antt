use Rattle.std.proofs.Common.{◌≡◌, ◌+◌, ◌≤◌, vec_capacity, vec_len}
use Rattle.lead_index.proofs.Paths.{IsBegun}
use Rattle.lead_index.proofs.tree.push_path.Given as goal

abbrev pub invariant-loop-i : goal.invariant-loop-i
invariant-loop-i l = IsBegun l.fn.nodes.items l.nodes.items l.letters l.element l.i × (vec_len l.nodes ≡ vec_len l.fn.nodes + l.i)
    × (vec_capacity l.fn.nodes ≤ vec_capacity l.nodes)
