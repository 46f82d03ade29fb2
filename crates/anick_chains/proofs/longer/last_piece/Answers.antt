use Rattle.std.proofs.Common.{◌≡◌, ◌-◌, Some, arith, sym, ◌∙◌, length, rules}
use Rattle.std.specs.List.{slice_get}
use Rattle.std.proofs.lemmas.Option.{slice_get_within}
use Rattle.anick_chains.proofs.LastPieces.{last_piece-get}
use Rattle.anick_chains.proofs.longer.last_piece.Goals as goal

pub returns-in-Some : goal.returns-in-Some
returns-in-Some c =
    let there : slice_get c.args.pieces.now (length c.args.pieces.now - 1) ≡ Some c.in-Some.last.now = search rules in
    let size = slice_get_within c.args.pieces.now (length c.args.pieces.now - 1) c.in-Some.last.now there in
    c.letters.ensures ∙ sym (last_piece-get c.args.pieces.now c.in-Some.last.now (length c.args.pieces.now - 1) (omega (arith, size)) there)
