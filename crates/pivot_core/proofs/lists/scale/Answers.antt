use Rattle.std.proofs.Common.{◌≡◌, ◌++◌, ◌-◌, ◌<◌, ℕ, List, All, drop, length, refl, sym, ap, ap₂, ◌∙◌, arith, subst, take}
use Rattle.std.proofs.lemmas.List.Elements.{All-drop, All-replicate}
use Rattle.field_table.specs.Residues.{plus_multiple}
use Rattle.pivot_core.specs.Views.{zeros}
use Rattle.pivot_core.proofs.Zeros.{length-zeros}
use Rattle.pivot_core.proofs.LeadingZeros.{length-part, part_to_end, part_whole, scaled_from}
use Rattle.pivot_core.proofs.lists.scale.Goals as goal

pub axpy_lanes-requires-clause-y_residues : goal.axpy_lanes-requires-clause-y_residues
axpy_lanes-requires-clause-y_residues c =
    let p : ℕ = c.args.field.now in
    let cleared = c.clear.new.row in
    let all : All (λ r. r < p) cleared =
    subst (All (λ r. r < p)) (sym c.clear.ensures) (All-replicate (λ r. r < p) (length c.args.multiple.now) 0 (omega (arith, c.requires.factor))) in
    subst (All (λ r. r < p)) (sym (part_whole c.args.from (length cleared - c.args.from) cleared refl)) (All-drop (λ r. r < p) c.args.from cleared all)

pub axpy_lanes-requires-clause-lengths : goal.axpy_lanes-requires-clause-lengths
axpy_lanes-requires-clause-lengths c =
    let from : ℕ = c.args.from in
    let cleared = c.clear.new.row in
    let row = c.args.row.now in
    length-part from (length cleared - from) cleared refl
    ∙ ap (λ (n : ℕ). n - from) (ap length c.clear.ensures ∙ length-zeros (length c.args.multiple.now) ∙ c.requires.length)
    ∙ sym (length-part from (length row - from) row refl)

pub returns : goal.returns
returns c =
    let p : ℕ = c.args.field.now in
    let from : ℕ = c.args.from in
    let row : List ℕ = c.args.row.now in
    let cleared : List ℕ = c.clear.new.row in
    let is : cleared ≡ zeros (length row) = c.clear.ensures ∙ ap zeros c.requires.length in
    let sums = c.axpy_lanes.ensures.sums ∙ ap₂ (plus_multiple p c.args.a)
    (part_whole from (length cleared - from) cleared refl ∙ ap (drop from) is) (part_whole from (length row - from) row refl) in
    part_to_end from (length cleared - from) cleared c.axpy_lanes.new.y refl
    ∙ ap (λ (ys : List ℕ). take from ys ++ c.axpy_lanes.new.y) is
    ∙ scaled_from p c.args.a from row c.axpy_lanes.new.y c.requires.before c.requires.within sums
