use Rattle.std.proofs.Common.{◌≡◌, ℕ, map, refl, sym, ap, ◌∙◌, arith}
use Rattle.std.proofs.lemmas.List.{map-id}
use Rattle.back_reduce.specs.declared.echelon.Leader.{Leader}
use Rattle.back_reduce.specs.declared.problem.Problem.{Problem}
use Rattle.back_reduce.specs.Pivots.{held_columns, held_row}
use Rattle.back_reduce.proofs.HeldLeaders.{leaders_of_pivots, listed_more, listed_same}
use Rattle.back_reduce.proofs.echelon.leaders_of.Goals as goal
use Rattle.back_reduce.proofs.echelon.leaders_of.Goals.{then-is_some+in_ok-row+in_ok-push, else-is_some}

pub loop-column-preserved : goal.loop-column-preserved
loop-column-preserved g c =
    let holders = g.P.PivotRows.holders c.args.pivots.now in
    let value = g.P.PivotRows.values c.args.pivots.now in
    let m = (g.P.PivotRows.given c.args.pivots.now).m in
    let n = c.loop-column.column in
    let before = c.loop-column.leaders.items in
    let found = c.holder.result in
    let width : c.problem.result.now.m ≡ m = ap (λ (p : Problem). p.m) c.problem.ensures.problem in
    elim c.if-is_some.branch [
      | then-is_some+in_ok-row+in_ok-push w ↦ (
          let after = c.if-is_some.leaders.items in
          let some = sym c.is_some.ensures ∙ w.if-is_some.true in
          let leader : Leader = record { column = n; row = w.in_ok-row.row } in
          let row = w.in_ok-row.ensures in
          let pushed = w.push.new.self.items in
          let shown = ap (λ v. v.items) w.leaders-is in
          let grown = w.in_ok-push.ensures.items in
          record {
            columns = listed_more holders (λ k. k) (λ (h : Leader). h.column) n after pushed before leader found shown grown
                c.holder.ensures some refl c.loop-column.invariant.columns;
            rows = listed_more holders (held_row m value) (λ (h : Leader). h.row) n after pushed before leader found shown grown
                c.holder.ensures some row c.loop-column.invariant.rows;
          })
      | else-is_some w ↦ (
          let after = c.if-is_some.leaders.items in
          let not = sym c.is_some.ensures ∙ w.if-is_some.false in
          let kept = ap (λ v. v.items) w.leaders-is in
          record {
            columns = listed_same holders (λ k. k) (λ (h : Leader). h.column) n after before found kept c.holder.ensures not c.loop-column.invariant.columns;
            rows = listed_same holders (held_row m value) (λ (h : Leader). h.row) n after before found kept c.holder.ensures not
                c.loop-column.invariant.rows;
          })
    ]

pub returns : goal.returns
returns g c =
    let problem = g.P.PivotRows.given c.args.pivots.now in
    let holders = g.P.PivotRows.holders c.args.pivots.now in
    let value = g.P.PivotRows.values c.args.pivots.now in
    let end : c.loop-column.column ≡ problem.m = omega (arith, ap (λ (p : Problem). p.m) c.problem.ensures.problem) in
    let leaders = c.loop-column.leaders.items in
    let columns : map (λ (h : Leader). h.column) leaders ≡ held_columns problem.m holders = c.loop-column.invariant.columns
    ∙ map-id (held_columns c.loop-column.column holders) ∙ ap (λ (n : ℕ). held_columns n holders) end in
    let rows : map (λ (h : Leader). h.row) leaders ≡ map (held_row problem.m value) (held_columns problem.m holders) =
    c.loop-column.invariant.rows ∙ ap (λ (n : ℕ). map (held_row problem.m value) (held_columns n holders)) end in
    leaders_of_pivots problem holders value leaders c.problem.ensures.pivots columns rows
