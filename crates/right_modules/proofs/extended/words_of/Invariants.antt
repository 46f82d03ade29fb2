use Rattle.std.proofs.Common.{◌≡◌, ◌≤◌, length, take}
use Rattle.std.specs.List.{flat_map, range_with_len}
use Rattle.right_modules.specs.Extended.{ending}
use Rattle.right_modules.proofs.extended.words_of.Given as goal

abbrev pub invariant-loop-letter : goal.invariant-loop-letter
invariant-loop-letter l =
    (l.words.items ≡ flat_map (ending l.alphabet.weights l.free l.index l.d l.held) (take l.letter (range_with_len 0 (length l.alphabet.weights))))
    × (length l.words.items ≤ l.most)
