use Rattle.std.proofs.Common.{None, arith, ap, length, map, refl}
use Rattle.std.proofs.lemmas.List.{length-map}
use Rattle.symbolic_prep.proofs.PackedMultiples.{lead_within, listed, multiple_is, tail_each, tail_fits}
use Rattle.symbolic_prep.proofs.Reducing.{normal_is}
use Rattle.symbolic_prep.proofs.tails.push_tail.Goals as goal

pub list_at-element-requires : goal.list_at-element-requires
list_at-element-requires c =
    let r = c.requires in
    omega (
      arith,
      length-map c.args.elements.now (λ list. list.items),
      listed c.args.basis.now c.done-done.ensures.kept r.form c.args.index.now r.index c.args.word.now r.letters c.args.packing.bits c.args.packing.room
          r.room (map (λ list. list.items) c.args.elements.now) r.elements c.in-Some.place.at c.in-Some.place.element c.in-Some.ensures.place,
    )

pub overflow_add-place : goal.overflow_add-place
overflow_add-place c =
    let r = c.requires in
    record {
      fits = omega (
        arith,
        c.first_len_of.ensures,
        lead_within c.args.basis.now c.done-done.ensures.kept r.form c.args.index.now r.index c.args.word.now r.letters c.args.packing.bits
            c.args.packing.room r.room _ r.elements c.in-Some.place.at c.in-Some.place.element c.in-Some.ensures.place c.args.packed r.packed
            c.list_at-element.result.now _ c.list_at-element.ensures refl,
        r.packed.is.len,
        ap length r.packed.letters,
        r.small,
      );
    }

pub back-rest-requires-clause-within : goal.back-rest-requires-clause-within
back-rest-requires-clause-within c =
    let r = c.requires in
    omega (
      arith,
      c.first_len_of.ensures,
      lead_within c.args.basis.now c.done-done.ensures.kept r.form c.args.index.now r.index c.args.word.now r.letters c.args.packing.bits
          c.args.packing.room r.room _ r.elements c.in-Some.place.at c.in-Some.place.element c.in-Some.ensures.place c.args.packed r.packed
          c.list_at-element.result.now _ c.list_at-element.ensures refl,
    )

pub push_multiple-requires-clause-words : goal.push_multiple-requires-clause-words
push_multiple-requires-clause-words c =
    let r = c.requires in
    tail_each c.args.basis.now c.done-done.ensures.kept r.form c.args.index.now r.index c.args.word.now r.letters c.args.packing.bits
    c.args.packing.room r.room _ r.elements c.in-Some.place.at c.in-Some.place.element c.in-Some.ensures.place c.args.packed r.packed
    c.list_at-element.result.now c.behind_first.result.now c.list_at-element.ensures c.behind_first.ensures

pub push_multiple-requires-clause-fits : goal.push_multiple-requires-clause-fits
push_multiple-requires-clause-fits c =
    let r = c.requires in
    tail_fits c.args.basis.now c.done-done.ensures.kept r.form c.args.index.now r.index c.args.word.now r.letters c.args.packing.bits
    c.args.packing.room r.room _ r.elements c.in-Some.place.at c.in-Some.place.element c.in-Some.ensures.place c.args.packed r.packed
    c.list_at-element.result.now c.behind_first.result.now c.list_at-element.ensures c.behind_first.ensures c.front-before.result c.back-rest.result _
    c.first_len_of.ensures c.front-before.ensures c.back-rest.ensures

pub returns-in_ok-end-in-Some-clause-tail : goal.returns-in_ok-end-in-Some-clause-tail
returns-in_ok-end-in-Some-clause-tail c =
    let r = c.requires in
    multiple_is c.args.basis.now c.done-done.ensures.kept r.form c.args.index.now r.index c.args.word.now r.letters c.args.packing.bits
    c.args.packing.room r.room _ r.elements c.in-Some.place.at c.in-Some.place.element c.in-Some.ensures.place c.args.packed r.packed
    c.list_at-element.result.now c.behind_first.result.now c.list_at-element.ensures c.behind_first.ensures c.front-before.result c.back-rest.result _
    c.first_len_of.ensures c.front-before.ensures c.back-rest.ensures c.args.words.now.items c.push_multiple.new.multiple.items _
    c.in_ok-push_multiple-in-Some.ensures.multiple (omega (arith, c.in_ok-start-in-Some.ensures, c.len.ensures, c.args.words.now.ok))
    (omega (arith, c.in_ok-end-in-Some.ensures, c.len-in-Some.ensures, c.push_multiple.new.multiple.ok)) refl

pub returns-in-None-clause-tail : goal.returns-in-None-clause-tail
returns-in-None-clause-tail c = record {
  reducer = None;
  is = normal_is c.args.basis.now.elements c.args.index.now c.requires.index c.args.word.now c.in-None.ensures.place;
  tail = tt;
}
