use Rattle.std.proofs.Common.{ℕ, List, subst, ap, arith}
use Rattle.std.proofs.lemmas.Bool.{eqb-true}
use Rattle.back_reduce.specs.Rref.{IsRref}
use Rattle.plain_engine.proofs.Forms.{rref-full, rref-one_span}
use Rattle.plain_engine.proofs.gathered.make_room.Goals as goal

pub returns-clause-gathered : goal.returns-clause-gathered
returns-clause-gathered g c =
    let echelon = c.in_ok-echelon.echelon in
    let rref = c.in_ok-echelon.ensures.form in
    record {
      each = rref.each;
      few = omega (arith, c.in_ok-echelon.ensures.few, c.requires.narrow);
      full = λ is. rref-full c.args.field.now c.args.m c.replace-rows.result.items echelon.items rref
          (omega (arith, echelon.ok.0, c.len-2.ensures, eqb-true c.len-2.result c.args.m is));
    }

pub returns-clause-span : goal.returns-clause-span
returns-clause-span g c =
    let p = c.args.field.now in
    let echelon = c.in_ok-echelon.echelon.items in
    let rref = subst (λ (rows : List (List ℕ)). IsRref p c.args.m rows echelon) (ap (λ v. v.items) c.replace-rows.ensures.value) c.in_ok-echelon.ensures.form in
    rref-one_span p c.args.m c.args.gathered.now.rows.items echelon rref c.requires.gathered.each
