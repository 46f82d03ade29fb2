use Rattle.std.proofs.Common.{◌≡◌, ◌++◌, ◌∷◌, map, take}
use Rattle.degree_words.proofs.lists.push_words.Given as goal

abbrev pub invariant-loop-tail : goal.invariant-loop-tail
invariant-loop-tail l = l.words.items ≡ l.initial.words.items ++ map (λ w. l.letter ∷ w) (take l.tail-index l.tails)
