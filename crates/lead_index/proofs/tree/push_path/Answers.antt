use Rattle.std.proofs.Common.{◌≡◌, ◌+◌, ℕ, arith, length, subst}
use Rattle.lead_index.specs.Tree.{IsOnPath}
use Rattle.lead_index.proofs.Paths.{begun_more}
use Rattle.lead_index.proofs.tree.push_path.Goals as goal

pub loop-i-preserved : goal.loop-i-preserved
loop-i-preserved c =
    let h = c.loop-i.invariant.0 in
    let e : c.len.result + 1 ≡ length c.args.nodes.now.items + c.loop-i.i + 1 = let count = h.count in omega arith in
    let on : IsOnPath (length c.args.nodes.now.items + c.loop-i.i + 1) c.args.letters.now c.args.element c.loop-i.i c.path_node-node.result =
    subst (λ (m : ℕ). IsOnPath m c.args.letters.now c.args.element c.loop-i.i c.path_node-node.result) e c.path_node-node.ensures in
    (begun_more _ _ _ _ _ _ c.path_node-node.result h on c.in-Ok.ensures.items, omega (arith, c.in-Ok.ensures.len), omega (arith, c.in-Ok.ensures.capacity))
