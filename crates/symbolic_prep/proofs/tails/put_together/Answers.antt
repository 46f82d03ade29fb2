use Rattle.std.proofs.Common.{◌≡◌, ◌+◌, ◌∷◌, [], ℕ, List, All, ap, arith, get_or, length, length-append, sym, ◌∙◌}
use Rattle.symbolic_prep.specs.PackedWords.{IsPackedWord}
use Rattle.symbolic_prep.specs.Tails.{HasTail}
use Rattle.symbolic_prep.proofs.ReducerTails.{same_packing, tails_more}
use Rattle.symbolic_prep.proofs.tails.put_together.Goals as goal

pub loop-next-preserved : goal.loop-next-preserved
loop-next-preserved c =
    let G = c.args.basis.now.elements in
    let t = c.args.table.now in
    let w : List ℕ = c.as_slice-word.result.now in
    let p = c.packing-packing in
    let spans = c.loop-next.tails.items in
    let pushed = c.in_ok-push.ensures.items in
    let here : w ≡ get_or t.words (c.args.from + length spans) [] = c.as_slice-word.ensures.value ∙ c.in_ok-packed.ensures.word
    ∙ ap (λ (n : ℕ). get_or t.words (c.args.from + n) []) (sym c.loop-next.invariant.size) in
    record {
      size = omega (arith, ap length pushed, length-append spans (c.in_ok-span.span ∷ []), c.loop-next.invariant.size);
      packed = same_packing (λ bits room. All (IsPackedWord bits room) c.push_tail.new.words.items) p.result.bits t.bits p.result.room t.room
          p.ensures.bits p.ensures.room c.in_ok-span.ensures.words;
      each = tails_more G t.bits t.room t.words c.args.from spans c.push.new.self.items c.loop-next.words.items c.push_tail.new.words.items w
          c.in_ok-span.span c.loop-next.invariant.each c.in_ok-span.ensures.longer
          (same_packing (λ bits room. HasTail G bits room c.push_tail.new.words.items w c.in_ok-span.span) p.result.bits t.bits p.result.room t.room
          p.ensures.bits p.ensures.room c.in_ok-span.ensures.tail) here pushed;
    }
