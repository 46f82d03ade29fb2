use Rattle.std.proofs.Common.{◌-◌, ap, map, cond, ltb, ◌∙◌, arith}
use Rattle.lane_kernel.proofs.LaneLists.{remainder_lanes}
use Rattle.lane_kernel.proofs.narrow.narrow_multiples.Goals as goal

pub returns : goal.returns
returns c =
    c.capped.ensures ∙ ap (map (λ r. cond (ltb r c.args.p) r (r - c.args.p))) c.narrow_rest.ensures
    ∙ remainder_lanes 65536 c.args.p c.args.a c.args.quotient c.args.x (omega arith) c.requires.factor c.requires.quotient c.requires.residues
