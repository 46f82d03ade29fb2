use Rattle.std.proofs.Common.{◌≡◌, ◌≤◌, length, take}
use Rattle.std.specs.List.{flat_map, range_with_len}
use Rattle.normal_words.proofs.Grown.{block_of}
use Rattle.normal_words.proofs.next.next_degree.Given as goal

abbrev pub invariant-loop-letter : goal.invariant-loop-letter
invariant-loop-letter l =
    (l.words.items ≡ flat_map (block_of l.alphabet.weights l.index l.before) (take l.letter (range_with_len 0 (length l.alphabet.weights))))
    × (length l.words.items ≤ l.most)
