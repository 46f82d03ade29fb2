use Rattle.std.proofs.Common.{List, arith, subst}
use Rattle.free_poly.specs.declared.term.Term.{Term}
use Rattle.symbolic_prep.specs.PackedWords.{ArePackedWithin}
use Rattle.symbolic_prep.proofs.PackedWords.{AllZip-next}
use Rattle.symbolic_prep.proofs.multiples.packed_basis.Goals as goal

pub loop-place-preserved : goal.loop-place-preserved
loop-place-preserved c =
    let bits = c.args.packing.bits in
    let room = c.args.packing.room in
    AllZip-next (ArePackedWithin bits room) _ c.args.basis.now.elements _ _ c.loop-place.place c.element.result.now _ c.loop-place.invariant
    (omega arith) c.element.ensures
    (subst (λ (f : List Term). ArePackedWithin bits room f c.in_ok-list.list.items) c.terms.ensures.value c.in_ok-list.ensures) c.in_ok-push.ensures.items
