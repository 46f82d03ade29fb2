use Rattle.std.proofs.Common.{◌≡◌, ◌++◌, ◌-◌, ◌∷◌, [], Bool, OnOk, cond, length, subst, sym, take, true, false, rules, ap, ◌∙◌, append-nil}
use Rattle.anick_chains.specs.BasisTips.{leads_of}
use Rattle.anick_chains.specs.Walk.{stands}
use Rattle.anick_chains.proofs.Indexed.{stands-index, stands-starts}
use Rattle.anick_chains.proofs.next.push_end.Goals as goal

pub returns-in-Some : goal.returns-in-Some
returns-in-Some c =
    let b = c.args.tips.now.basis.now in
    let word : c.letters.result.now ≡ c.args.piece.now ++ take (length c.args.next.now - 1) c.args.next.now = search rules in
    let there : stands (leads_of b.elements) (c.args.piece.now ++ take (length c.args.next.now - 1) c.args.next.now) ≡ true =
    ap (stands (leads_of b.elements)) (sym word)
    ∙ stands-starts b c.requires.tips.kept c.args.tips.now.index c.requires.tips.indexed c.letters.result.now c.in-Some.field-0.at
    c.in-Some.field-0.element c.in-Some.ensures.place.starts in
    sym (ap (λ (t : Bool). c.args.found.now.items ++ cond t [] (c.args.next.now ∷ [])) there ∙ append-nil c.args.found.now.items)

pub returns : goal.returns
returns c =
    let b = c.args.tips.now.basis.now in
    let word : c.letters.result.now ≡ c.args.piece.now ++ take (length c.args.next.now - 1) c.args.next.now = search rules in
    let none : stands (leads_of b.elements) (c.args.piece.now ++ take (length c.args.next.now - 1) c.args.next.now) ≡ false =
    ap (stands (leads_of b.elements)) (sym word) ∙ stands-index b c.requires.tips.kept c.args.tips.now.index c.requires.tips.indexed
    c.letters.result.now c.in-None.ensures.place in
    subst (λ (t : Bool). OnOk c.push_word.result (c.push_word.new.found.items ≡ c.args.found.now.items ++ cond t [] (c.args.next.now ∷ [])))
    (sym none) c.push_word.ensures
