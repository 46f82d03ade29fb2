use Rattle.std.proofs.Common.{◌≡◌, ◌+◌, ◌∷◌, [], ◌++◌, ◌∙◌, Some, arith, ap, subst, sym, take}
use Rattle.std.specs.List.{Contains, slice_get}
use Rattle.std.proofs.lemmas.Option.{slice_get_within}
use Rattle.free_poly.specs.declared.term.Term.{Term}
use Rattle.std.proofs.lemmas.List.{take_more}
use Rattle.symbolic_prep.proofs.Numbers.{listed_none, listed_push}
use Rattle.symbolic_prep.proofs.by_word.push_numbers.Goals as goal

pub loop-term-init : goal.loop-term-init
loop-term-init c = listed_none c.args.columns.now c.args.numbers.now.items

pub place_of-column-requires-clause-there : goal.place_of-column-requires-clause-there
place_of-column-requires-clause-there c =
    let t : Term = c.term-item.result in
    let own : Contains c.args.columns.now t.word = subst (λ (x : Term). Contains c.args.columns.now x.word) (sym c.term-item.is)
    (c.requires.on_columns c.loop-term.term-index t (omega arith)) in
    subst (Contains c.args.columns.now) (sym c.letters.ensures) own

pub overflow_cast-column : goal.overflow_cast-column
overflow_cast-column c = omega (
  arith,
  slice_get_within c.args.columns.now c.place_of-column.result c.letters.result.now
      c.place_of-column.ensures,
  c.requires.few,
)

pub loop-term-preserved : goal.loop-term-preserved
loop-term-preserved c =
    let t : Term = c.term-item.result in
    let columns = c.args.columns.now in
    let ts = c.args.terms.now in
    let i = c.loop-term.term-index in
    let at : slice_get columns c.place_of-column.result ≡ Some t.word = c.place_of-column.ensures ∙ ap Some c.letters.ensures in
    listed_push columns c.args.numbers.now.items c.loop-term.numbers.items c.push.new.self.items (take i ts) (take (i + 1) ts)
    c.place_of-column.result t c.loop-term.invariant at c.in_ok-push.ensures.items
    (take_more ts i t (omega arith) ∙ ap (λ (x : Term). take i ts ++ x ∷ []) (sym c.term-item.is))
