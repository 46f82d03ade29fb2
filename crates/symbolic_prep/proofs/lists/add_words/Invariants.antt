use Rattle.std.proofs.Common.{◌≡◌, ◌≤◌, IsTrue, List, length, map, take}
use Rattle.free_poly.specs.declared.term.Term.{Term}
use Rattle.symbolic_prep.specs.Numbers.{AreListed, IsGrown}
use Rattle.symbolic_prep.specs.PackedWords.{letters_in}
use Rattle.symbolic_prep.proofs.lists.add_words.Given as goal

abbrev pub invariant-loop-word : goal.invariant-loop-word
invariant-loop-word l = record {
  grown : IsGrown l.fn.table.words l.table.words (map (letters_in l.fn.table.bits l.fn.table.room) (take l.word-index l.words));
  listed : (f : List Term) → map (letters_in l.fn.table.bits l.fn.table.room) l.words ≡ map (λ t. t.word) f → IsTrue l.held →
      AreListed l.table.words l.fn.numbers.items l.numbers.items (take l.word-index f);
  within : length l.table.words ≤ l.most;
  bits : l.table.bits ≡ l.fn.table.bits;
  room : l.table.room ≡ l.fn.table.room;
}
