use Rattle.std.proofs.Common.{◌-◌, ◌*◌, ◌%◌, ◌^◌, ◌<◌, ◌≤◌, ◌≡◌, ◌∙◌, ℕ, ap, arith, drop, length, length-drop, suc}
use Rattle.std.proofs.Math.Nat.{mod-eq_of_lt}
use Rattle.std.proofs.lemmas.List.Elements.{All-drop}
use Rattle.symbolic_prep.specs.Packing.{packed}
use Rattle.symbolic_prep.specs.PackedWords.{letters_in}
use Rattle.symbolic_prep.proofs.Digits.{back_is, packed_fits}
use Rattle.symbolic_prep.proofs.packing.last_letters.Goals as goal

pub returns : goal.returns
returns c =
    let bits = c.args.packing.bits in
    let room = c.args.packing.room in
    let at = c.args.at in
    let h = c.requires.word in
    let w = letters_in bits room c.args.word in
    let inside : at ≤ length w = omega (arith, c.requires.within, h.len) in
    let last = c.last_bits.ensures ∙ ap (λ (n : ℕ). n % 2 ^ (bits * (room - at))) h.key in
    let is : c.last_bits.result * 2 ^ (bits * at) ≡ packed (2 ^ bits) room (drop at w) =
    ap (λ (n : ℕ). n * 2 ^ (bits * at)) last ∙ back_is bits room at w h.over h.fits inside in
    mod-eq_of_lt (omega (
      arith,
      is,
      packed_fits bits room (drop at w) c.requires.packing.whole (All-drop (λ x. suc x < 2 ^ bits) at w h.over)
          (omega (arith, length-drop at w, h.fits)),
    )) ∙ is
