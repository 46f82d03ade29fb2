use Rattle.std.proofs.Common.{◌≡◌, ◌<◌, ◌+◌, ◌*◌, ◌%◌, ℕ, get_or, length, replicate, set, sym, ap, ◌∙◌, arith, subst}
use Rattle.std.proofs.Math.Nat.{add-mod-mod}
use Rattle.std.proofs.lemmas.List.{get_or_read}
use Rattle.field_table.specs.Residues.{plus_multiple}
use Rattle.back_reduce.proofs.EntryRows.{entries-residues}
use Rattle.back_reduce.proofs.ListedRows.{plus_multiple-part, plus_multiple-part_residues, plus_multiple-zeros}
use Rattle.back_reduce.proofs.form.Listed.add_multiple.Goals as goal

pub loop-place-init : goal.loop-place-init
loop-place-init c =
    let width : c.args.self.now.width ≡ length c.args.into.now = sym c.requires.width in
    sym (ap (λ (n : ℕ). plus_multiple c.args.field.now c.args.a c.args.into.now (replicate n 0)) width
    ∙ plus_multiple-zeros c.args.field.now c.args.a c.args.into.now c.requires.into_residues)

pub mul-requires-clause-b_residue : goal.mul-requires-clause-b_residue
mul-requires-clause-b_residue c =
    let row = c.args.self.now in
    let within : c.loop-place.place < length row.residues.items = omega (arith, row.entries.same) in
    let all = entries-residues c.args.field.now row.width row.columns.items row.residues.items row.entries c.requires.residues in
    subst (λ (n : ℕ). n < c.args.field.now) (sym c.index-in-loop-place.ensures) (all c.loop-place.place _ within)

pub add-requires-clause-a_residue : goal.add-requires-clause-a_residue
add-requires-clause-a_residue c =
    let row = c.args.self.now in
    let i = c.loop-place.place in
    let column = get_or_read row.columns.items i c.index.result.now (omega arith) c.index.ensures 0 in
    let below = row.entries.below i 0 (omega arith) in
    plus_multiple-part_residues c.args.field.now c.args.a row.width i c.loop-place.into c.args.into.now row.columns.items row.residues.items
    (omega (arith, c.requires.factor)) c.requires.width c.loop-place.invariant c.index.result.now 0
    (omega (arith, column, below, c.requires.width))

pub loop-place-preserved : goal.loop-place-preserved
loop-place-preserved c =
    let row = c.args.self.now in
    let p = c.args.field.now in
    let a = c.args.a in
    let i = c.loop-place.place in
    let into = c.loop-place.into in
    let at = c.index.result.now in
    let column = get_or_read row.columns.items i at (omega arith) c.index.ensures 0 in
    let residue = get_or_read row.residues.items i c.index-in-loop-place.result.now (omega (arith, row.entries.same)) c.index-in-loop-place.ensures 0 in
    let sum : c.add.result ≡ (get_or into at 0 + a * c.index-in-loop-place.result.now) % p =
    c.add.ensures ∙ ap (λ (n : ℕ). (get_or into at 0 + n) % p) c.mul.ensures ∙ add-mod-mod (get_or into at 0) (a * c.index-in-loop-place.result.now) p in
    ap (set into at) sum ∙ ap (λ (r : ℕ). set into at ((get_or into at 0 + a * r) % p)) residue
    ∙ ap (λ (n : ℕ). set into n ((get_or into n 0 + a * get_or row.residues.items i 0) % p)) column
    ∙ plus_multiple-part p a row.width i into c.args.into.now row.columns.items row.residues.items row.entries (omega arith) c.requires.width
    c.requires.into_residues c.loop-place.invariant
