use Rattle.std.proofs.Common.{◌%◌, ◌*◌, ◌<◌, arith, ap, ◌∙◌}
use Rattle.std.proofs.Math.Nat.{mod-lt}
use Rattle.field_table.proofs.Inverses.{next_inverse, undivided_from_field_modulus}
use Rattle.field_table.proofs.field.+inverse_of.Goals as goal

pub inverse_of-below-requires : goal.inverse_of-below-requires
inverse_of-below-requires t c =
    let below : c.args.modulus % c.args.a < c.args.a = mod-lt c.args.modulus {m = c.args.a} (omega arith) in
    let other = undivided_from_field_modulus c.args.modulus c.requires.field c.args.a (omega arith) (omega arith) in
    (omega (arith, below), (c.requires.field, (omega (arith, other), omega (arith, below))))

pub returns-clause-one : goal.returns-clause-one
returns-clause-one t c =
    ap (λ (n : _). (c.args.a * n) % c.args.modulus) c.times.ensures
    ∙ next_inverse c.args.modulus c.args.a c.inverse_of-below.result (omega arith) c.inverse_of-below.ensures.one
