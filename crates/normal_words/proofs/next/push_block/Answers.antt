use Rattle.std.proofs.Common.{◌++◌, ◌<◌, ◌∷◌, ℕ, List, Err, length, subst, ap, ap₂, ◌∙◌, arith}
use Rattle.words.proofs.Faults.{same_fault}
use Rattle.normal_words.specs.Block.{begins, unless, unless_begins}
use Rattle.normal_words.proofs.Gathered.{gathered-longer}
use Rattle.normal_words.proofs.next.push_block.Goals as goal

pub returns-in_err-push_unless-clause-many : goal.returns-in_err-push_unless-clause-many
returns-in_err-push_unless-clause-many c = λ e.
    let leads = c.args.index.now in
    let spelled = c.in_ok-spell.ensures ∙ ap (λ (u : List ℕ). c.args.letter ∷ u) c.letters.ensures in
    let begun = c.begins-begun.ensures ∙ ap (begins leads) (c.as_slice.ensures.value ∙ spelled) in
    let same = ap₂ unless begun (c.as_slice-in-loop-tail.ensures.value ∙ spelled) in
    gathered-longer (λ v. unless_begins leads (c.args.letter ∷ v)) _ _ c.args.tails.now c.loop-tail.tail-index c.args.most c.tail-item.result (omega arith)
    c.tail-item.is c.loop-tail.invariant.0
    (subst (λ (us : List (List ℕ)). c.args.most < length (c.loop-tail.words.items ++ us)) same
    (c.in_err-push_unless.ensures.many (ap Err (same_fault c.from_residual-in_err-push_unless.result _ _ c.from_residual-in_err-push_unless.ensures.1 e))))
