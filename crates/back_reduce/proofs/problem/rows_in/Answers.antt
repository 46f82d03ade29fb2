use Rattle.std.proofs.Common.{◌≡◌, ◌+◌, ◌-◌, ◌*◌, ◌++◌, ◌∷◌, [], ℕ, List, drop, sym, ap, ◌∙◌, arith, take}
use Rattle.std.proofs.lemmas.List.FromFn.{map-range_with_len_more}
use Rattle.back_reduce.specs.Rows.{cut_rows}
use Rattle.back_reduce.proofs.problem.rows_in.Goals as goal

pub loop-r-preserved : goal.loop-r-preserved
loop-r-preserved c =
    let m = c.args.m in
    let r = c.loop-r.r in
    let cells = c.args.cells.now in
    let width : r * m + m - r * m ≡ m = omega arith in
    c.in_ok-push.ensures.items ∙ ap (λ (l : List (List ℕ)). l ++ c.in_ok-from_residues.field-0 ∷ []) c.loop-r.invariant
    ∙ ap (λ (row : List ℕ). cut_rows m r cells ++ row ∷ [])
    (c.in_ok-from_residues.ensures ∙ ap (λ (k : ℕ). take k (drop (r * m) cells)) width)
    ∙ sym (map-range_with_len_more (λ (k : ℕ). take m (drop (k * m) cells)) 0 r r (omega arith))
