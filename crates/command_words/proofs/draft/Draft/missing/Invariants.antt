use Rattle.std.proofs.Common.{All, take}
use Rattle.std.specs.Prelude.{IsSome}
use Rattle.command_words.specs.Draft.{kept}
use Rattle.command_words.proofs.draft.Draft.missing.Given as goal

abbrev pub invariant-loop-key : goal.invariant-loop-key
invariant-loop-key l = All (λ key. IsSome (kept l.self.values key)) (take l.key-index l.key-items)
