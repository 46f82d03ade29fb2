use Rattle.std.proofs.Common.{◌≡◌, ◌+◌, map, take}
use Rattle.std.specs.Prelude.{string_bytes}
use Rattle.command_words.specs.Draft.{IsDraft}
use Rattle.command_words.proofs.read.draft_of.Given as goal

abbrev pub invariant-loop-word : goal.invariant-loop-word
invariant-loop-word l = record {
  draft : IsDraft l.command (map string_bytes (take l.word-index l.words)) l.draft.values;
  counted : l.number ≡ l.word-index + 2;
}
