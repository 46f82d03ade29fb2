use Rattle.std.proofs.Common.{◌≡◌, ◌*◌, ◌%◌, false, ℕ, None, Option, Some, get_or, length, refl, set, sym, ap, ◌∙◌, arith}
use Rattle.std.specs.Option.{is_some}
use Rattle.std.proofs.Math.Nat.{mul_comm}
use Rattle.std.proofs.lemmas.List.{get_or_default}
use Rattle.back_reduce.specs.declared.table.Held.{Held}
use Rattle.back_reduce.specs.Table.{held_at, nothing, IsHeldVector, IsInserted, IsTable}
use Rattle.back_reduce.proofs.Sums.{plus_nothing}
use Rattle.back_reduce.proofs.Tables.{placed_first}
use Rattle.back_reduce.proofs.table.insert.Goals as goal
use Rattle.back_reduce.proofs.table.insert.Goals.{Joined-table-at}

none_from : {A : Type 0} (x : Option A) → is_some x ≡ false → x ≡ None
none_from None e = refl
none_from (Some a) e = cc e

abbrev own : Joined-table-at → Held
own c = record { holder = c.args.holder; row = c.in_ok-row.row }

placed_both : (c : Joined-table-at)
    → IsTable c.args.field.now (length c.args.row.now) (set c.args.table.now c.in-Some.at (Some (own c)))
    × IsInserted c.args.field.now c.args.holder c.args.table.now c.args.row.now (set c.args.table.now c.in-Some.at (Some (own c)))
placed_both c =
    let row = c.args.row.now in
    let table = c.args.table.now in
    let at = c.in-Some.at in
    let a = c.inv-a.result in
    let lead = c.in-Some.ensures in
    let found = c.index-table-at.result in
    let free : held_at table at ≡ None =
    get_or_default table at None found (omega (arith, lead.within, c.requires.table.size))
    ∙ none_from (get_or table at found) (sym c.is_some.ensures ∙ c.if-is_some.false) in
    placed_first c.args.field.now c.args.holder at a table row (own c) c.requires.table lead free c.inv-a.ensures.residue
    (ap (λ (m : ℕ). m % c.args.field.now) (mul_comm a (get_or row at 0)) ∙ ap (λ (m : ℕ). (m * a) % c.args.field.now) (sym c.at.ensures)
    ∙ c.inv-a.ensures.one) refl c.in_ok-row.ensures

pub returns-clause-table : goal.returns-clause-table
returns-clause-table c = (placed_both c).0

pub returns-clause-inserted : goal.returns-clause-inserted
returns-clause-inserted c = (placed_both c).1

pub returns-in_default-clause-inserted : goal.returns-in_default-clause-inserted
returns-in_default-clause-inserted c =
    let row = c.args.row.now in
    let p = c.args.field.now in
    nothing row (λ modulus. plus_nothing p modulus (IsHeldVector p modulus c.args.table.now) row row refl) c.in_default.ensures refl
