use Rattle.std.proofs.Common.{◌≡◌, ◌+◌, ◌-◌, ◌/◌, ◌<◌, ℕ, arith, subst, false, true, inl, inr, sym}
use Rattle.std.proofs.lemmas.Bool.{cases_lt}
use Rattle.overlaps.specs.Walk.{IsAbove, lead_word}
use Rattle.overlaps.proofs.Fronts.{above-before}
use Rattle.overlaps.proofs.place.first_place.Goals as goal

pub loop-low-preserved-then-is_above : goal.loop-low-preserved-then-is_above
loop-low-preserved-then-is_above c =
    let G = c.args.basis.now.elements in
    let word = c.args.word.now in
    let v = c.loop-low.invariant in
    let middle : ℕ = c.loop-low.low + (c.loop-low.high - c.loop-low.low) / 2 in
    let under : middle < c.loop-low.high = omega (arith, c.loop-low-test.true) in
    let here : IsAbove word (lead_word G middle) = subst (IsAbove word) c.lead_at.ensures.lead (c.is_above.ensures.0 c.if-is_above.true) in
    record {
      from = omega (arith, v.from);
      ordered = omega (arith, under);
      upto = v.upto;
      above = λ k from before. elim (cases_lt k middle) [
        | inl lt ↦ above-before word (lead_word G k) (lead_word G middle) (c.requires.falling k middle from lt (omega (arith, under, v.upto))) here
        | inr le ↦ let same : middle ≡ k = omega (arith, before, le) in subst (λ (n : ℕ). IsAbove word (lead_word G n)) same here
      ];
      others = v.others;
    }

pub loop-low-preserved : goal.loop-low-preserved
loop-low-preserved c =
    let G = c.args.basis.now.elements in
    let word = c.args.word.now in
    let v = c.loop-low.invariant in
    let middle : ℕ = c.loop-low.low + (c.loop-low.high - c.loop-low.low) / 2 in
    let under : middle < c.loop-low.high = omega (arith, c.loop-low-test.true) in
    let not_here : IsAbove word (lead_word G middle) → ⊥ = λ h.
    let t : c.is_above.result ≡ true = c.is_above.ensures.1 (subst (IsAbove word) (sym c.lead_at.ensures.lead) h) in
    let f : c.is_above.result ≡ false = c.if-is_above.false in cc in
    record {
      from = v.from;
      ordered = omega arith;
      upto = omega (arith, under, v.upto);
      above = v.above;
      others = λ k from before h. elim (cases_lt middle k) [
        | inl lt ↦ not_here (above-before word (lead_word G middle) (lead_word G k) (c.requires.falling middle k (omega (arith, v.from)) lt before) h)
        | inr le ↦ let same : k ≡ middle = omega (arith, from, le) in not_here (subst (λ (n : ℕ). IsAbove word (lead_word G n)) same h)
      ];
    }
