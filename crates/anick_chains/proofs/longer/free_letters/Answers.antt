use Rattle.std.proofs.Common.{◌≡◌, ◌++◌, List, ℕ, arith, length, sym, ap, ◌∙◌}
use Rattle.anick_chains.specs.Walk.{free_letter}
use Rattle.anick_chains.proofs.Members.{joined, joined-one}
use Rattle.anick_chains.proofs.longer.free_letters.Goals as goal

pub loop-letter-preserved : goal.loop-letter-preserved
loop-letter-preserved c =
    let b = c.args.tips.now.basis.now in
    let f : ℕ → List (List ℕ) = free_letter b.weights b.elements c.args.degree in
    c.in_ok-push_letter.ensures ∙ ap (λ (rs : List (List ℕ)). rs ++ f c.loop-letter.letter) c.loop-letter.invariant ∙ sym (joined-one f c.loop-letter.letter)

pub returns : goal.returns
returns c =
    let b = c.args.tips.now.basis.now in
    let last : c.loop-letter.letter ≡ length b.weights = omega (
      arith,
      c.loop-letter-test.false,
      c.loop-letter.auto.letter-end,
      c.letters-letter-end.ensures.count,
    ) in
    c.loop-letter.invariant ∙ ap (joined (free_letter b.weights b.elements c.args.degree)) last
