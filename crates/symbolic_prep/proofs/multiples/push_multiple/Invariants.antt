use Rattle.std.proofs.Common.{All, take}
use Rattle.symbolic_prep.specs.PackedWords.{HasMultiple, IsPackedWord, letters_in}
use Rattle.symbolic_prep.proofs.multiples.push_multiple.Given as goal

abbrev pub invariant-loop-word : goal.invariant-loop-word
invariant-loop-word l = record {
  each : All (IsPackedWord l.packing.bits l.packing.room) l.multiple.items;
  multiple : HasMultiple l.packing.bits l.packing.room (letters_in l.packing.bits l.packing.room l.before) (take l.word-index l.words)
      (letters_in l.packing.bits l.packing.room l.rest) l.fn.multiple.items l.multiple.items;
}
