use Rattle.std.proofs.Common.{◌≡◌, ◌<◌, ℕ, List, length, Some, None, sym, ap, ◌∙◌, arith, subst}
use Rattle.std.specs.Result.{IfOk}
use Rattle.std.proofs.lemmas.List.{get_or_read}
use Rattle.back_reduce.specs.Pivots.{held_row}
use Rattle.back_reduce.specs.Sequential.{value_in, Sequential}
use Rattle.back_reduce.specs.Table.{held_at}
use Rattle.back_reduce.proofs.Eliminated.{row_free, row_held}
use Rattle.back_reduce.proofs.elimination.SeqPivotsPivotRows.row.Goals as goal

pub returns-in-Some : goal.returns-in-Some
returns-in-Some c =
    let inside = c.self.inside in
    let table = inside.table.items in
    let within : c.args.column < length table = omega (arith, c.requires, c.self.invariant.size, ap (λ s. s.problem.m) c.self.view_is) in
    let there : held_at table c.args.column ≡ Some c.in-Some.held =
    sym (get_or_read table c.args.column c.index.result.now within c.index.ensures None) ∙ c.in-Some.is in
    let P : Sequential → Type 0 = λ s. IfOk c.copy.result (λ row. row ≡ held_row s.problem.m (value_in s.table) c.args.column) in
    subst P c.self.view_is (subst (λ (r : List ℕ). IfOk c.copy.result (λ row. row ≡ r))
    (sym (row_held inside.problem.m table c.args.column c.in-Some.held (c.self.invariant.widths c.args.column c.in-Some.held there) there)) c.copy.ensures)

pub returns-in-None : goal.returns-in-None
returns-in-None c =
    let inside = c.self.inside in
    let table = inside.table.items in
    let within : c.args.column < length table = omega (arith, c.requires, c.self.invariant.size, ap (λ s. s.problem.m) c.self.view_is) in
    let free : held_at table c.args.column ≡ None = sym (get_or_read table c.args.column c.index.result.now within c.index.ensures None) ∙ c.in-None.is in
    let P : Sequential → Type 0 = λ s. c.zeros.result ≡ held_row s.problem.m (value_in s.table) c.args.column in
    subst P c.self.view_is (c.zeros.ensures ∙ sym (row_free inside.problem.m table c.args.column free))
