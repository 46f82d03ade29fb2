use Rattle.std.proofs.Common.{◌∷◌, [], All, List, arith, sym, subst}
use Rattle.std.proofs.lemmas.List.Elements.{All-append, All-cons, All-nil}
use Rattle.symbolic_prep.specs.declared.packing.PackedWord.{PackedWord}
use Rattle.symbolic_prep.specs.PackedWords.{IsPackedWord, letters_in}
use Rattle.symbolic_prep.proofs.PackedMultiples.{multiple_more, multiple_none}
use Rattle.symbolic_prep.proofs.multiples.push_multiple.Goals as goal

pub loop-word-init : goal.loop-word-init
loop-word-init c = record {
  each = c.requires.each;
  multiple = multiple_none c.args.packing.bits c.args.packing.room (letters_in c.args.packing.bits c.args.packing.room c.args.before) c.args.words.now
      (letters_in c.args.packing.bits c.args.packing.room c.args.rest) c.args.multiple.now.items;
}

pub loop-word-preserved : goal.loop-word-preserved
loop-word-preserved c =
    let own = IsPackedWord c.args.packing.bits c.args.packing.room in
    let read = letters_in c.args.packing.bits c.args.packing.room in
    record {
      each = subst (All own) (sym {A = List PackedWord} c.in_ok-push.ensures.items)
          (All-append own c.loop-word.multiple.items (c.joined.result ∷ []) c.loop-word.invariant.each
          (All-cons own c.joined.result [] c.joined.ensures.is (All-nil own)));
      multiple = multiple_more c.args.packing.bits c.args.packing.room (read c.args.before) c.args.words.now (read c.args.rest)
          c.args.multiple.now.items c.loop-word.word-index _ c.joined.result c.loop-word.multiple.items c.push.new.self.items
          c.loop-word.invariant.multiple (omega arith) c.joined.ensures.letters c.in_ok-push.ensures.items;
    }
