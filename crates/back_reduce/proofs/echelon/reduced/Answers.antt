use Rattle.back_reduce.proofs.Echelons.{problem_rref}
use Rattle.back_reduce.proofs.echelon.reduced.Goals as goal

pub returns : goal.returns
returns g c =
    let problem = g.P.PivotRows.given c.args.pivots.now in
    problem_rref problem c.args.field.now c.as_slice-2.result.now c.in_ok-leaders.leaders.items c.reduced_rows.result (λ v. v.items)
    c.requires c.as_slice-2.ensures.value c.in_ok-leaders.ensures c.reduced_rows.ensures
