use Rattle.std.proofs.Common.{◌∙◌, sym, arith}
use Rattle.std.proofs.lemmas.List.{length-map, length-take-le}
use Rattle.words.proofs.NameLists.{apart_more, names_from, repeat_here}
use Rattle.words.proofs.alphabet.fault_of.Goals as goal

pub returns-in-Some : goal.returns-in-Some
returns-in-Some c = (
  omega (arith, length-map c.args.names.now (λ name. name.items)),
  repeat_here (λ name. name.items) c.args.names.now c.in-Some.first c.loop-second.second c.index-names-second.result (omega arith) c.index-names-second.is
      (omega (arith, c.in-Some.ensures.0, length-take-le c.loop-second.second c.args.names.now (omega arith)))
      (c.in-Some.ensures.1 ∙ c.as_slice.ensures.value) c.loop-second.invariant,
)

pub loop-second-preserved : goal.loop-second-preserved
loop-second-preserved c = apart_more (λ name. name.items) c.args.names.now c.loop-second.second c.index-names-second.result (omega arith)
    c.index-names-second.is
    (λ k d within e. c.in_default.ensures k d within (e ∙ sym c.as_slice.ensures.value)) c.loop-second.invariant

pub returns : goal.returns
returns c = names_from (λ name. name.items) c.args.names.now c.loop-second.second c.if-is_empty.ensures c.if-names-gt64.false
    c.loop-second-test.false c.loop-second.invariant
