use Rattle.std.proofs.Common.{◌≡◌, ◌++◌, ◌∷◌, [], List, ℕ, OnOk, arith, subst, sym, ap, ◌∙◌, append-nil}
use Rattle.anick_chains.proofs.Indexed.{stands-index, stands-starts}
use Rattle.anick_chains.proofs.Letters.{free_letter-free, free_letter-other, free_letter-tip}
use Rattle.anick_chains.proofs.longer.push_letter.Goals as goal

pub returns-then-from-degree : goal.returns-then-from-degree
returns-then-from-degree c =
    let b = c.args.tips.now.basis.now in
    let none = free_letter-other b.weights b.elements c.args.degree c.args.letter (λ e. c.if-from-degree.true (c.from.ensures ∙ c.weight.ensures.value ∙ e)) in
    sym (ap (λ (rs : List (List ℕ)). c.args.found.now.items ++ rs) none ∙ append-nil c.args.found.now.items)

pub returns-in-Some : goal.returns-in-Some
returns-in-Some c =
    let b = c.args.tips.now.basis.now in
    let none = free_letter-tip b.weights b.elements c.args.degree c.args.letter
    (stands-starts b c.requires.tips.kept c.args.tips.now.index c.requires.tips.indexed (c.args.letter ∷ []) c.in-Some.field-0.at
    c.in-Some.field-0.element c.in-Some.ensures.place.starts) in
    sym (ap (λ (rs : List (List ℕ)). c.args.found.now.items ++ rs) none ∙ append-nil c.args.found.now.items)

pub returns-in-None : goal.returns-in-None
returns-in-None c =
    let b = c.args.tips.now.basis.now in
    let one = free_letter-free b.weights b.elements c.args.degree c.args.letter (omega (arith, c.if-from-degree.false, c.from.ensures, c.weight.ensures.value))
    (stands-index b c.requires.tips.kept c.args.tips.now.index c.requires.tips.indexed (c.args.letter ∷ []) c.in-None.ensures.place) in
    subst (λ (rs : List (List ℕ)). OnOk c.push_word.result (c.push_word.new.found.items ≡ c.args.found.now.items ++ rs)) (sym one) c.push_word.ensures
