use Rattle.std.proofs.Common.{◌≡◌}
use Rattle.std.specs.List.{flat_map, range_with_len}
use Rattle.words.specs.Words.{with_letter}
use Rattle.degree_words.specs.Lists.{list_at}
use Rattle.degree_words.proofs.lists.list_of.Given as goal

abbrev pub invariant-loop-letter : goal.invariant-loop-letter
invariant-loop-letter l = l.words.items ≡ flat_map (with_letter l.alphabet.weights (list_at l.lists) l.k) (range_with_len 0 l.letter)
