use Rattle.std.proofs.Common.{◌≡◌, ◌++◌, ◌≤◌, length, take}
use Rattle.normal_words.specs.Block.{block}
use Rattle.normal_words.proofs.next.push_block.Given as goal

abbrev pub invariant-loop-tail : goal.invariant-loop-tail
invariant-loop-tail l = (l.words.items ≡ l.fn.words.items ++ block l.index l.letter (take l.tail-index l.tails)) × (length l.words.items ≤ l.most)
