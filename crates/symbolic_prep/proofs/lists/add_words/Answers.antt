use Rattle.std.proofs.Common.{◌≡◌, arith, get_or, ◌∙◌}
use Rattle.symbolic_prep.specs.PackedWords.{letters_in}
use Rattle.symbolic_prep.proofs.AddedWords.{add_listed, add_many, add_more}
use Rattle.symbolic_prep.proofs.lists.add_words.Goals as goal

pub returns-then-len-most-clause-many : goal.returns-then-len-most-clause-many
returns-then-len-most-clause-many c = λ e.
    add_many c.args.table.now.words c.loop-word.table.words c.add.new.self.words (letters_in c.args.table.now.bits c.args.table.now.room)
    c.args.words.now c.loop-word.word-index _ (omega arith) _
    (λ i. letters_in (c.loop-word.invariant.bits i) (c.loop-word.invariant.room i)
    (get_or c.args.words.now c.loop-word.word-index (record { key = 0; len = 0 })))
    c.loop-word.invariant.grown c.in_ok-number.ensures.grown c.args.most (omega (arith, c.if-len-most.true, c.len.ensures.count))

pub loop-word-preserved : goal.loop-word-preserved
loop-word-preserved c =
    let old = c.args.table.now.words in
    let so_far = c.loop-word.table.words in
    let new = c.add.new.self.words in
    let read = letters_in c.args.table.now.bits c.args.table.now.room in
    let ps = c.args.words.now in
    let i = c.loop-word.word-index in
    let is : letters_in c.loop-word.table.bits c.loop-word.table.room (get_or ps i (record { key = 0; len = 0 }))
    ≡ read (get_or ps i (record { key = 0; len = 0 })) =
    λ j. letters_in (c.loop-word.invariant.bits j) (c.loop-word.invariant.room j) (get_or ps i (record { key = 0; len = 0 })) in
    record {
      grown = add_more old so_far new read ps i _ (omega arith) _ is c.loop-word.invariant.grown c.in_ok-number.ensures.grown;
      listed = λ f same held. add_listed old so_far new read ps i _ (omega arith) _ is c.loop-word.invariant.grown c.in_ok-number.ensures.grown f same
          c.args.numbers.now.items c.loop-word.numbers.items c.push_number.new.numbers.items c.in_ok-number.number
          (c.loop-word.invariant.listed f same held) c.in_ok-number.ensures.number (c.in_ok-push_number.ensures.pushed held);
      within = omega (arith, c.if-len-most.false, c.len.ensures.count);
      bits = c.in_ok-number.ensures.bits ∙ c.loop-word.invariant.bits;
      room = c.in_ok-number.ensures.room ∙ c.loop-word.invariant.room;
    }
