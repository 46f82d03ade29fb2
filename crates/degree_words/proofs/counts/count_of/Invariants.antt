use Rattle.std.proofs.Common.{◌≡◌, ◌-◌, ◌^◌, length, min}
use Rattle.std.specs.List.{flat_map, range_with_len}
use Rattle.words.specs.Words.{with_letter, words_of_degree}
use Rattle.degree_words.proofs.counts.count_of.Given as goal

abbrev pub invariant-loop-letter : goal.invariant-loop-letter
invariant-loop-letter l = l.count ≡ min (length (flat_map (with_letter l.alphabet.weights (words_of_degree l.alphabet.weights) l.k)
    (range_with_len 0 l.letter))) (2 ^ 64 - 1)
