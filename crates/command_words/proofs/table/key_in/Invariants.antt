use Rattle.std.proofs.Common.{All, take}
use Rattle.command_words.specs.Refusals.{HasKey}
use Rattle.command_words.proofs.table.key_in.Given as goal

abbrev pub invariant-loop-key : goal.invariant-loop-key
invariant-loop-key l = All (λ key. HasKey key l.word → ⊥) (take l.key-index l.key-items)
