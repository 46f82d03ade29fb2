use Rattle.std.proofs.Common.{◌≡◌, ◌++◌, ◌≤◌, length, take}
use Rattle.right_modules.specs.Extended.{extended}
use Rattle.right_modules.proofs.extended.push_extended.Given as goal

abbrev pub invariant-loop-front : goal.invariant-loop-front
invariant-loop-front l = (l.words.items ≡ l.fn.words.items ++ extended l.index l.letter (take l.front-index l.fronts)) × (length l.words.items ≤ l.most)
