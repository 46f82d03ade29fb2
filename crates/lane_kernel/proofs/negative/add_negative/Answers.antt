use Rattle.std.proofs.Common.{◌+◌, ◌-◌, ◌*◌, ◌%◌, ap, ◌∙◌, arith}
use lib.Lanes.{chunk, zip2}
use Rattle.lane_kernel.proofs.Blocks.{block_added, residue_chunk, rest_chunk}
use Rattle.lane_kernel.proofs.negative.add_negative.Goals as goal

pub negatives-lanes-requires-clause-residues : goal.negatives-lanes-requires-clause-residues
negatives-lanes-requires-clause-residues c = residue_chunk c.args.p (c.loop-block.block * 8) c.args.x.now c.requires.x_residues (omega arith)

pub sums-requires-clause-first : goal.sums-requires-clause-first
sums-requires-clause-first c = rest_chunk c.args.p (c.args.p - 1) (c.loop-block.block * 8) c.args.y.now c.args.x.now c.loop-block.y
    c.requires.y_residues c.loop-block.invariant (omega arith)

pub loop-block-preserved : goal.loop-block-preserved
loop-block-preserved c =
    let at = c.loop-block.block * 8 in
    block_added c.args.p (c.args.p - 1) at ((c.loop-block.block + 1) * 8) c.args.y.now c.args.x.now c.loop-block.y c.sums.result
    c.requires.lengths c.loop-block.invariant (omega arith) (omega arith)
    (c.sums.ensures ∙ ap (zip2 (λ r s. (r + s) % c.args.p) (chunk at 8 c.loop-block.y)) c.negatives-lanes.ensures)
