use Rattle.std.proofs.Common.{◌%◌, ℕ, Some, get_or, length, refl, set, ap, ◌∙◌}
use Rattle.std.proofs.Math.Nat.{mul_comm}
use Rattle.back_reduce.specs.declared.table.Held.{Held}
use Rattle.back_reduce.specs.Table.{nothing, IsFirstFree, IsInserted, IsTable}
use Rattle.back_reduce.proofs.Tables.{placed_from}
use Rattle.back_reduce.proofs.table.insert_cleared.Goals as goal
use Rattle.back_reduce.proofs.table.insert_cleared.Goals.{Joined-table-at}

abbrev own : Joined-table-at → Held
own c = record { holder = c.args.holder; row = c.in_ok-row.row }

placed_both : (c : Joined-table-at)
    → IsTable c.args.field.now (length c.args.row.now) (set c.args.table.now c.in-Some.at (Some (own c)))
    × IsInserted c.args.field.now c.args.holder c.args.table.now c.args.row.now (set c.args.table.now c.in-Some.at (Some (own c)))
placed_both c =
    let at = c.in-Some.at in
    let a = c.inv-a.result in
    let left = c.free_column.new.row in
    let first : IsFirstFree c.args.table.now left at = c.in-Some.ensures.free in
    placed_from c.args.field.now c.args.holder at a c.args.table.now c.args.row.now left (own c) c.requires.table c.free_column.auto.row
    c.free_column.ensures.reduced first c.inv-a.ensures.residue
    (ap (λ (m : ℕ). m % c.args.field.now) (mul_comm a (get_or left at 0)) ∙ c.inv-a.ensures.one) refl
    (c.in_ok-row.ensures ∙ c.scale.ensures)

pub returns-in_ok-row-clause-table : goal.returns-in_ok-row-clause-table
returns-in_ok-row-clause-table c = (placed_both c).0

pub returns-in_ok-row-clause-inserted : goal.returns-in_ok-row-clause-inserted
returns-in_ok-row-clause-inserted c = (placed_both c).1

pub returns-in_default-clause-inserted : goal.returns-in_default-clause-inserted
returns-in_default-clause-inserted c = nothing c.free_column.new.row c.free_column.ensures.reduced c.in_default.ensures.free refl
