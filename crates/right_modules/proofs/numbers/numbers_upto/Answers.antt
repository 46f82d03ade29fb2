use Rattle.std.proofs.Common.{◌≡◌, ◌+◌, ◌-◌, ◌++◌, ◌∷◌, ◌∙◌, [], ℕ, Err, ap, arith, length, rules, subst, sym}
use Rattle.right_modules.specs.Answered.{IsFirstLarge, free_letters}
use Rattle.right_modules.specs.Extended.{AreHeld, AreNormal}
use Rattle.ideal_laws.specs.declared.limits.LimitKind.TheVariants.{NormalWords}
use Rattle.right_modules.proofs.Counted.{AreNumbersBelow, first_large, held-more, numbers-more, numbers_are}
use Rattle.right_modules.proofs.numbers.numbers_upto.Goals as goal

pub returns-in-Err-TooMany-clause-limit : goal.returns-in-Err-TooMany-clause-limit
returns-in-Err-TooMany-clause-limit c = λ kind degree value e.
    let given = c.args.presentation.now in
    let weights = given.alphabet.weights in
    let d = c.loop-degree.degree in
    let m = c.in-Err-TooMany.ensures.many (ap Err c.in-Err-TooMany.field-0-is) in
    let free : c.len.result - c.args.gens ≡ free_letters given c.args.gens = ap (λ (n : ℕ). n - c.args.gens) c.len.ensures.count in
    let normal = subst (λ (n : ℕ). AreNormal weights n c.args.index.now d m.0) free m.1 in
    let same : d ≡ degree = cc in
    let kept : c.from.result + 1 ≡ value = cc in
    let most : c.args.most + 1 ≡ value = omega (arith, kept, c.from.ensures) in
    let is : NormalWords ≡ kind = cc in (
      sym is,
      λ p tells.
          let large = first_large p given c.args.gens c.args.bound c.args.index.now tells c.args.most d c.loop-degree.numbers.items m.0
          (omega arith) c.loop-degree.invariant.0 normal m.2 in
          subst (λ (n : ℕ). IsFirstLarge p given c.args.gens c.args.most c.args.bound n value) same
          (subst (IsFirstLarge p given c.args.gens c.args.most c.args.bound d) most large),
    )

pub loop-degree-preserved : goal.loop-degree-preserved
loop-degree-preserved c =
    let given = c.args.presentation.now in
    let weights = given.alphabet.weights in
    let d = c.loop-degree.degree in
    let words = c.in-Ok.words.items in
    let numbers = c.loop-degree.numbers.items in
    let count : c.len-in-Ok.result ≡ length words = search rules in
    let free : c.len.result - c.args.gens ≡ free_letters given c.args.gens = ap (λ (n : ℕ). n - c.args.gens) c.len.ensures.count in
    let normal = subst (λ (n : ℕ). AreNormal weights n c.args.index.now d words) free c.in-Ok.ensures.words in
    let grown = c.in_ok-push_number-in-Ok.ensures ∙ ap (λ (n : ℕ). numbers ++ n ∷ []) count in (
      subst (AreNumbersBelow weights (free_letters given c.args.gens) c.args.index.now c.args.most (d + 1)) (sym grown)
          (numbers-more weights (free_letters given c.args.gens) c.args.index.now c.args.most d numbers words c.loop-degree.invariant.0
          normal c.in-Ok.ensures.within),
      subst (AreHeld weights (free_letters given c.args.gens) c.args.index.now (d + 1)) (sym c.in_ok-hold-in-Ok.ensures)
          (held-more weights (free_letters given c.args.gens) c.args.index.now d c.loop-degree.held.items words c.loop-degree.invariant.1 normal),
    )

pub returns-clause-numbers : goal.returns-clause-numbers
returns-clause-numbers c = λ p tells.
    let given = c.args.presentation.now in
    let last : c.loop-degree.degree ≡ c.args.bound + 1 = omega arith in
    numbers_are p given c.args.gens c.args.bound c.args.index.now tells c.args.most c.loop-degree.numbers.items
    (subst (λ (n : ℕ). AreNumbersBelow given.alphabet.weights (free_letters given c.args.gens) c.args.index.now c.args.most n
    c.loop-degree.numbers.items) last c.loop-degree.invariant.0)
