use Rattle.std.proofs.Common.{◌≡◌, ◌<◌, ◌≤◌, ℕ, zero, suc, List, [], ◌∷◌, length, get_or, refl, arith, ap, ◌∙◌, subst}
use Rattle.std.proofs.lemmas.List.{take_all}
use Rattle.std.proofs.lemmas.List.Elements.{All-cons, All-more, All-nil}
use Rattle.words.specs.Words.{IsOver, degree_of, weight_of}
use Rattle.free_poly.specs.declared.term.Term.{Term}
use Rattle.free_poly.specs.Terms.{HasDegree, UsesLetters}
use Rattle.ideal_laws.proofs.tests.is_quadratic.Goals as goal

abbrev ones : List ℕ
ones = 1 ∷ 1 ∷ []

weight_one : (x : ℕ) → weight_of ones x ≡ 1
weight_one zero = refl
weight_one (suc zero) = refl
weight_one (suc (suc x)) = refl

two_letters : (w : List ℕ) → length w ≡ 2 → get_or w 0 0 ≤ 1 → get_or w 1 0 ≤ 1 → IsOver 2 w × (degree_of ones w ≡ 2)
two_letters [] e a b = absurd (omega (arith, e))
two_letters (x ∷ []) e a b = absurd (omega (arith, e))
two_letters (x ∷ y ∷ []) e a b = (
  All-cons (λ n. n < 2) x (y ∷ []) (omega (arith, a)) (All-cons (λ n. n < 2) y [] (omega (arith, b)) (All-nil (λ n. n < 2))),
  omega (arith, weight_one x, weight_one y),
)
two_letters (x ∷ y ∷ z ∷ w) e a b = absurd (omega (arith, e))

pub loop-term-preserved : goal.loop-term-preserved
loop-term-preserved c =
    let word = c.letters-letters.ensures in
    let h = two_letters c.letters-letters.result.now c.if-letters-ne2.false c.if-letters-gt1.false c.if-letters-gt1-2.false in
    let item = ap (λ (t : Term). t.word) c.term-item.is in
    let moved = subst (λ (w : List ℕ). IsOver 2 w × (degree_of ones w ≡ 2)) (word ∙ item) h in (
      All-more (λ (t : Term). IsOver 2 t.word) c.terms-terms.result.now c.loop-term.term-index c.term-item.result c.loop-term-test.true
          c.loop-term.invariant.0 moved.0,
      All-more (λ (t : Term). degree_of ones t.word ≡ 2) c.terms-terms.result.now c.loop-term.term-index c.term-item.result
          c.loop-term-test.true c.loop-term.invariant.1 moved.1,
    )

pub returns-clause-letters : goal.returns-clause-letters
returns-clause-letters c = λ _. subst (UsesLetters 2) (take_all c.loop-term.term-index c.terms-terms.result.now c.loop-term-test.false
    ∙ c.terms-terms.ensures.value) c.loop-term.invariant.0

pub returns-clause-degree : goal.returns-clause-degree
returns-clause-degree c = λ _. subst (HasDegree ones 2) (take_all c.loop-term.term-index c.terms-terms.result.now c.loop-term-test.false
    ∙ c.terms-terms.ensures.value) c.loop-term.invariant.1
