use Rattle.std.proofs.Common.{◌≡◌, ◌++◌, codes, take}
use Rattle.std.specs.List.{flat_map}
use Rattle.poly_writer.specs.Texts.{word_text}
use Rattle.anick_chains.proofs.text.push_rest.Given as goal

abbrev pub invariant-loop-piece : goal.invariant-loop-piece
invariant-loop-piece l = l.text.items ≡ l.fn.text.items ++ flat_map (λ piece. codes "|" ++ word_text l.alphabet.names piece) (take l.piece-index l.pieces)
