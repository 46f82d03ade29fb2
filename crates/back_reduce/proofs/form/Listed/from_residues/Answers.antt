use Rattle.std.proofs.Common.{◌≡◌, ℕ, List, ◌+◌, ◌++◌, ◌∷◌, [], length, sym, ap, ◌∙◌, arith, subst}
use Rattle.back_reduce.proofs.ListedRows.{listed_all, listed_more, listed_same, IsListedUpto}
use Rattle.back_reduce.proofs.form.Listed.from_residues.Goals as goal
use Rattle.back_reduce.proofs.form.Listed.from_residues.Goals.{then-row-at-ne0+in_ok-push+in_ok-push-2, else-row-at-ne0}

pub loop-at-preserved : goal.loop-at-preserved
loop-at-preserved c =
    let row = c.args.row.now in
    let at = c.loop-at.at in
    let columns = c.loop-at.columns.items in
    let residues = c.loop-at.residues.items in
    elim c.if-row-at-ne0.branch [
      | then-row-at-ne0+in_ok-push+in_ok-push-2 w ↦
          let first = ap (λ v. v.items) w.columns-is ∙ w.in_ok-push.ensures.items in
          let second = ap (λ v. v.items) w.residues-is ∙ w.in_ok-push-2.ensures.items in
          subst (λ (l : List ℕ). IsListedUpto row (at + 1) l c.if-row-at-ne0.residues.items) (sym first)
          (subst (IsListedUpto row (at + 1) (columns ++ at ∷ [])) (sym second)
          (listed_more row at columns residues (omega arith) c.loop-at.invariant))
      | else-row-at-ne0 w ↦
          subst (λ (l : List ℕ). IsListedUpto row (at + 1) l c.if-row-at-ne0.residues.items) (sym (ap (λ v. v.items) w.columns-is))
          (subst (IsListedUpto row (at + 1) columns) (sym (ap (λ v. v.items) w.residues-is))
          (listed_same row at columns residues (omega (arith, w.if-row-at-ne0.false)) c.loop-at.invariant))
    ]

pub returns : goal.returns
returns c =
    let row = c.args.row.now in
    let end : c.loop-at.at ≡ length row = omega arith in
    listed_all row c.loop-at.columns.items c.loop-at.residues.items
    (subst (λ (n : ℕ). IsListedUpto row n c.loop-at.columns.items c.loop-at.residues.items) end c.loop-at.invariant)
