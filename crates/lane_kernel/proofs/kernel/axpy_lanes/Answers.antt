use Rattle.std.proofs.Common.{◌≡◌, ◌-◌, ◌*◌, ◌/◌, ◌<◌, ℕ, All, length, refl, sym, ap, arith, subst}
use Rattle.field_table.proofs.Multiples.{plus_multiple-residues}
use Rattle.lane_kernel.proofs.Blocks.{parts_added}
use Rattle.lane_kernel.proofs.kernel.axpy_lanes.Goals as goal

pub returns-clause-sums : goal.returns-clause-sums
returns-clause-sums c =
    let mid = c.add_blocks.new.y in
    let done = length mid / 8 * 8 in
    let size : length mid ≡ length c.args.y.now = c.add_blocks.ensures.size in
    parts_added c.args.field.now c.modulus-p.result c.args.a done (length mid - done) (length c.args.x.now - done)
    (length c.args.y.now / 8 * 8) c.args.y.now c.args.x.now mid c.axpy.new.y c.requires.lengths (omega arith)
    c.modulus-p.ensures.value c.add_blocks.ensures (ap (λ (n : ℕ). n / 8 * 8) (sym size)) refl refl c.axpy.ensures.sums

pub returns-clause-residues : goal.returns-clause-residues
returns-clause-residues c =
    subst (All (λ r. r < c.args.field.now)) (sym (returns-clause-sums c))
    (plus_multiple-residues c.args.field.now c.args.a c.args.y.now c.args.x.now (omega arith) c.requires.lengths)
