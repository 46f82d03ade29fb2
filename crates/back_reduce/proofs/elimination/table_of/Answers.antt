use Rattle.std.proofs.Common.{◌≡◌, ◌+◌, ℕ, List, [], Option, length, sym, ap, ◌∙◌, arith, subst}
use Rattle.std.proofs.lemmas.List.{get_or_read, with_items_is}
use Rattle.back_reduce.specs.declared.table.Held.{Held}
use Rattle.back_reduce.specs.Problems.{row_of}
use Rattle.back_reduce.specs.Table.{IsEliminated, IsInserted, IsTable}
use Rattle.back_reduce.proofs.Eliminated.{eliminated_more}
use Rattle.back_reduce.proofs.RowLists.{row_is}
use Rattle.back_reduce.proofs.elimination.table_of.Goals as goal

pub loop-r-preserved : goal.loop-r-preserved
loop-r-preserved c =
    let problem = c.args.problem.now in
    let r = c.loop-r.r in
    let row = row_of problem.rows.items r in
    let after = c.insert.new.table in
    let read : c.index-row.result.now ≡ row =
    get_or_read problem.rows.items r c.index-row.result.now (omega (arith, problem.count)) c.index-row.ensures [] in
    let size : length c.index-row.result.now ≡ problem.m = ap length read ∙ (row_is problem r c.loop-r-test.true).size in
    let is_table : IsTable problem.modulus problem.m after =
    subst (λ (p : ℕ). IsTable p problem.m after) (sym c.requires)
    (subst (λ (n : ℕ). IsTable c.args.field.now n after) size c.in_ok-insert.ensures.table) in
    let inserted : IsInserted c.args.field.now r c.loop-r.table.items row after =
    subst (λ (t : List (Option Held)). IsInserted c.args.field.now r t row after) c.as_mut_slice.ensures.value
    (subst (λ (x : List ℕ). IsInserted c.args.field.now r c.as_mut_slice.result.now x after) read c.in_ok-insert.ensures.inserted) in
    let long : length after ≡ c.loop-r.table.len = omega (arith, c.insert.auto.table, c.as_mut_slice.ensures.len) in
    subst (IsEliminated problem (r + 1)) (sym (with_items_is c.loop-r.table after long))
    (eliminated_more problem r c.loop-r.table.items after c.loop-r-test.true c.loop-r.invariant is_table
    (subst (λ (p : ℕ). IsInserted p r c.loop-r.table.items row after) (sym c.requires) inserted))
