use Rattle.std.proofs.Common.{◌≡◌, sym, ap, ◌∙◌, arith, subst}
use Rattle.pivot_core.specs.Finished.{Finished, found_values}
use Rattle.pivot_core.proofs.Found.{index_within, value_is, value_small}
use Rattle.pivot_core.proofs.pivots.CorePivotsPivotRows.value.Goals as goal

pub index-requires-in-Some : goal.index-requires-in-Some
index-requires-in-Some c =
    let m = ap (λ (f : Finished). f.problem.m) c.self.view_is in
    let within = index_within c.self.invariant (omega (arith, c.requires.column, m)) c.index.ensures (sym c.holder_told.ensures ∙ c.in-Some.is)
    c.args.at (omega (arith, c.requires.at, m)) in
    omega (arith, within, c.row_word_at.ensures, c.self.inside.words.ok.0)

pub overflow_cast-result : goal.overflow_cast-result
overflow_cast-result c =
    let m = ap (λ (f : Finished). f.problem.m) c.self.view_is in
    let small = value_small c.self.invariant (omega (arith, c.requires.column, m)) c.index.ensures (sym c.holder_told.ensures ∙ c.in-Some.is)
    c.args.at (omega (arith, c.requires.at, m)) c.row_word_at.ensures c.index-in-Some.ensures c.if-at-column.false in
    omega (arith, small)

pub returns-else-at-column : goal.returns-else-at-column
returns-else-at-column c =
    let m = ap (λ (f : Finished). f.problem.m) c.self.view_is in
    subst (λ (f : Finished). c.index-in-Some.result.now ≡ found_values f c.args.column c.args.at) c.self.view_is
    (value_is c.self.invariant (omega (arith, c.requires.column, m)) c.index.ensures (sym c.holder_told.ensures ∙ c.in-Some.is)
    c.args.at (omega (arith, c.requires.at, m)) c.row_word_at.ensures c.index-in-Some.ensures c.if-at-column.false)
