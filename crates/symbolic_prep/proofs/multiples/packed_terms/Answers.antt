use Rattle.std.proofs.Common.{◌+◌, ◌++◌, ◌∷◌, [], arith, ap, length, sym, take, ◌∙◌}
use Rattle.std.proofs.lemmas.List.{take_more}
use Rattle.free_poly.specs.declared.term.Term.{Term}
use Rattle.symbolic_prep.proofs.PackedWords.{packed_push}
use Rattle.symbolic_prep.proofs.multiples.packed_terms.Goals.{then-letters-packing+in_ok-push, else-letters-packing}
use Rattle.symbolic_prep.proofs.multiples.packed_terms.Goals as goal

pub loop-term-preserved : goal.loop-term-preserved
loop-term-preserved c = λ fits.
    let ts = c.args.terms.now in
    let i = c.loop-term.term-index in
    let t : Term = c.term-item.result in
    elim c.if-letters-packing.branch [
      | then-letters-packing+in_ok-push w ↦ packed_push c.args.packing.bits c.args.packing.room (take i ts) (take (i + 1) ts) c.loop-term.list.items _ _ t
          (c.loop-term.invariant fits) w.packed_word.ensures.is (w.packed_word.ensures.letters ∙ c.letters-letters.ensures)
          (take_more ts i t (omega arith) ∙ ap (λ (x : Term). take i ts ++ x ∷ []) (sym c.term-item.is))
          ((λ i. (w.list-is i).items) ∙ w.in_ok-push.ensures.items)
      | else-letters-packing w ↦ absurd (omega (
        arith,
        w.if-letters-packing.false,
        fits i t (omega arith),
        ap (λ (x : Term). length x.word) c.term-item.is,
        ap length c.letters-letters.ensures,
      ))
    ]
