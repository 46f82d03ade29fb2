use Rattle.std.proofs.Common.{◌<◌, ◌-◌, ◌/◌, ◌%◌, ◌*◌, arith, ap, ◌∙◌}
use Rattle.std.proofs.Math.Nat.{mod-lt}
use Rattle.std.proofs.lemmas.List.{get_or_read}
use Rattle.field_table.proofs.Inverses.{IsTableUpto-push}
use Rattle.field_table.proofs.field.table_of.Goals as goal

pub loop-a-preserved : goal.loop-a-preserved
loop-a-preserved c =
    let t = c.loop-a.invariant in
    let within : c.args.modulus % c.loop-a.a < c.loop-a.a = mod-lt c.args.modulus {m = c.loop-a.a} (omega arith) in
    let read = get_or_read c.loop-a.inverses.items _ c.index-below.result.now (omega (arith, within, t.count)) c.index-below.ensures 0 in
    rw c.in_ok-push-3.ensures.items (IsTableUpto-push _ _ _ _ c.requires.field (omega arith) (omega arith) t
    (c.times.ensures ∙ ap (λ (n : _). ((c.args.modulus - c.args.modulus / c.loop-a.a) * n) % c.args.modulus) read))
