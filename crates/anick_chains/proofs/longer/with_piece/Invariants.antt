use Rattle.std.proofs.Common.{◌≡◌, take}
use Rattle.anick_chains.proofs.longer.with_piece.Given as goal

abbrev pub invariant-loop-word : goal.invariant-loop-word
invariant-loop-word l = l.pieces.items ≡ take l.word-index l.front
