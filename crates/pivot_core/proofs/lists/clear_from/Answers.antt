use Rattle.std.proofs.Common.{◌-◌, ℕ, length, refl, ap, ◌∙◌, arith}
use Rattle.pivot_core.specs.Views.{zeros}
use Rattle.pivot_core.proofs.LeadingZeros.{cleared_from, length-part, part_to_end}
use Rattle.pivot_core.proofs.lists.clear_from.Goals as goal

pub returns : goal.returns
returns c =
    let from : ℕ = c.args.from in
    let row = c.args.row.now in
    part_to_end from (length row - from) row c.clear.new.row refl
    ∙ cleared_from from (length row - from) row c.clear.new.row c.requires.before (omega (arith, c.requires.within))
    (c.clear.ensures ∙ ap zeros (length-part from (length row - from) row refl))
