use Rattle.std.proofs.Common.{◌*◌, ◌<◌, ◌≤◌, arith}
use Rattle.std.proofs.lemmas.Nat.{mul-le}
use Rattle.row_store.specs.Deals.{turned}
use Rattle.row_store.proofs.Turned.{turned-within}
use Rattle.row_store.proofs.deal.Deal.part_at.Goals as goal

pub overflow_mul-part-2 : goal.overflow_mul-part-2
overflow_mul-part-2 c =
    let self = c.args.self in
    let part = turned self.turns self.hands c.args.place in
    let within : part < self.hands * self.turns = turned-within self.hands self.turns c.args.place c.requires in
    let least : part * self.size ≤ 134217728 * 8 = mul-le part self.size 134217728 8 (omega (arith, within, self.few)) self.small in
    omega (arith, least)
