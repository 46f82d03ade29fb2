use Rattle.std.proofs.Common.{◌≡◌, ◌<◌, [], Err, arith, ap, get_or, length, length-append, refl, sym, ◌∙◌}
use Rattle.std.proofs.lemmas.List.{get_or_default}
use Rattle.words.proofs.Faults.{one_fault}
use Rattle.symbolic_prep.specs.Walk.{tail_words}
use Rattle.symbolic_prep.proofs.Reduced.{grown_longer}
use Rattle.std.proofs.lemmas.List.Elements.{All-contains}
use Rattle.std.proofs.lemmas.Result.{err_from_is_err_and}
use Rattle.words.specs.Words.{IsOver, degree_of}
use Rattle.words.proofs.Members.{All-from_members}
use Rattle.symbolic_prep.proofs.Numbers.{closure_many}
use Rattle.symbolic_prep.proofs.NumberWalks.{number_walk_more, number_walk_none}
use Rattle.symbolic_prep.proofs.Stays.{stays}
use Rattle.symbolic_prep.proofs.numbering.walk_by_number.Goals as goal

pub loop-next-init : goal.loop-next-init
loop-next-init c = record {
  walking = number_walk_none c.args.basis.now.elements c.args.table.words c.args.entries c.args.limit c.new-spans.result.items
      c.new-numbers.result.items c.len-len.ensures.apart c.requires.entries c.new-spans.ensures.items c.new-numbers.ensures.items;
  within = c.requires.few;
  bits = refl;
  room = refl;
}

pub put_together-requires-clause-words : goal.put_together-requires-clause-words
put_together-requires-clause-words c =
    let b = c.args.basis.now in
    All-from_members (λ w. IsOver (length b.weights) w × (degree_of b.weights w ≡ c.args.d)) c.loop-next.table.words
    (λ w m. stays b c.done-done.ensures.kept c.requires.form c.args.d c.args.table.words
    (λ x n. All-contains (λ v. IsOver (length b.weights) v × (degree_of b.weights v ≡ c.args.d)) c.args.table.words x c.requires.words n)
    w (c.loop-next.invariant.walking.numbered.sound w m))

pub returns-in_err-span-clause-many : goal.returns-in_err-span-clause-many
returns-in_err-span-clause-many c = λ e.
    let b = c.args.basis.now in
    let p = err_from_is_err_and c.from_residual-in_err-span.result c.from_residual-in_err-span.ensures.1 in
    let more = c.in_err-span.ensures.many (ap Err (sym p.2 ∙ one_fault c.from_residual-in_err-span.result _ _ p.1 e)) c.args.table.words
    c.loop-span.invariant.walking.numbered.sound in
    closure_many b c.done-done.ensures.kept c.requires.form c.args.d c.args.index.now c.keeps.ensures c.requires.index c.args.table.words
    (λ x m. All-contains (λ v. IsOver (length b.weights) v × (degree_of b.weights v ≡ c.args.d)) c.args.table.words x c.requires.words m) c.args.most more

pub loop-span-preserved : goal.loop-span-preserved
loop-span-preserved c =
    let b = c.args.basis.now in
    let walk = c.loop-span in
    let words = walk.table.words in
    let k = c.in_ok-span.ensures.reduced in
    let lt : walk.next < length words = omega (
      arith,
      walk.invariant.place,
      c.in_ok-put_together.ensures.tails.within,
      ap length walk.invariant.longer.joined,
      length-append c.make_room.new.self.words walk.invariant.longer.more,
      ap (λ t. length t.words) c.make_room.ensures,
    ) in
    record {
      walking =
          number_walk_more b c.done-done.ensures.kept c.requires.form c.args.d c.args.index.now c.keeps.ensures c.requires.index c.args.table.words
          (λ x m. All-contains (λ v. IsOver (length b.weights) v × (degree_of b.weights v ≡ c.args.d)) c.args.table.words x c.requires.words m)
          words c.push_reducer.new.table.words walk.next c.args.entries c.args.limit walk.spans.items c.push.new.self.items
          walk.numbers.items c.push_reducer.new.numbers.items walk.entries c.in_ok-span.more (get_or words walk.next [])
          c.in_ok-span.span walk.invariant.walking lt (get_or_default words walk.next [] (get_or words walk.next []) lt) k c.in_ok-push.ensures.items;
      longer = grown_longer c.make_room.new.self.words words c.push_reducer.new.table.words (tail_words k.reducer) walk.invariant.longer k.grown;
      place = omega (arith, walk.invariant.place);
      within = c.in_ok-span.ensures.within;
      bits = c.in_ok-span.ensures.bits ∙ walk.invariant.bits;
      room = c.in_ok-span.ensures.room ∙ walk.invariant.room;
    }
