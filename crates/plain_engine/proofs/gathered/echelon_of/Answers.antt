use Rattle.std.proofs.Common.{◌≤◌, length, ap, arith, subst, sym, ◌∙◌}
use Rattle.std.proofs.lemmas.Result.{IfOk-weaker}
use Rattle.field_table.specs.Residues.{IsFieldModulus}
use Rattle.back_reduce.specs.Rref.{IsRref}
use Rattle.plain_engine.proofs.Forms.{rref-length}
use Rattle.plain_engine.proofs.gathered.echelon_of.Goals as goal

pub returns-clause-few : goal.returns-clause-few
returns-clause-few g c =
    let q = c.in_ok-pivots.pivots.problem in
    let is = c.in_ok-pivots.ensures in
    let modulus = subst IsFieldModulus (sym (ap (λ r. r.modulus) is ∙ c.modulus.ensures.value)) c.modulus.ensures.field in
    IfOk-weaker c.reduced.result (λ echelon. IsRref q.modulus q.m q.rows.items echelon.items) (λ echelon. length echelon.items ≤ c.args.m)
    (λ echelon h. omega (arith, rref-length q.modulus q.m q.rows.items echelon.items h modulus, ap (λ r. r.m) is)) c.reduced.ensures
