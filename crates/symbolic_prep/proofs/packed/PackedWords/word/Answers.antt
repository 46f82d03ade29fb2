use Rattle.std.proofs.Common.{◌≡◌, ◌^◌, ◌<◌, ℕ, List, arith, ap, get_or, length, ◌∙◌}
use Rattle.std.proofs.lemmas.List.{get_or_default, length-map}
use Rattle.symbolic_prep.specs.Packing.{unpacked}
use Rattle.symbolic_prep.proofs.Keys.{key_below}
use Rattle.symbolic_prep.proofs.packed.PackedWords.word.Goals as goal

pub unpack-requires-clause-fits : goal.unpack-requires-clause-fits
unpack-requires-clause-fits c =
    let bits = c.self.inside.packing.bits in
    let room = c.self.inside.packing.room in
    let keys : List ℕ = c.self.inside.keys.items in
    let lt : c.args.column < length keys = omega (
      arith,
      c.requires,
      ap (λ (ws : List (List ℕ)). length ws) c.self.view_is,
      length-map keys (unpacked (2 ^ bits) room),
    ) in
    let here : c.index.result.now ≡ get_or keys c.args.column 0 = c.index.ensures ∙ get_or_default keys c.args.column c.index.result.now 0 lt in
    omega (arith, here, key_below bits room (get_or keys c.args.column 0) (c.self.invariant.table.each c.args.column 0 lt))
