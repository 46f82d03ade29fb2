use Rattle.std.proofs.Common.{◌++◌, ◌<◌, ◌∷◌, ◌∙◌, [], ℕ, List, Err, ap, ap₂, arith, length, subst}
use Rattle.words.proofs.Faults.{same_fault}
use Rattle.normal_words.specs.Block.{unless}
use Rattle.normal_words.proofs.Gathered.{gathered-longer}
use Rattle.right_modules.specs.Extended.{stands, unless_stands}
use Rattle.right_modules.proofs.extended.push_extended.Goals as goal

pub returns-in_err-push_unless-clause-many : goal.returns-in_err-push_unless-clause-many
returns-in_err-push_unless-clause-many c = λ e.
    let leads = c.args.index.now in
    let spelled = c.in_ok-spell.ensures ∙ ap (λ (u : List ℕ). u ++ c.args.letter ∷ []) c.letters.ensures in
    let met = c.stands-met.ensures ∙ ap (stands leads) (c.as_slice.ensures.value ∙ spelled) in
    let same = ap₂ unless met (c.as_slice-in-loop-front.ensures.value ∙ spelled) in
    gathered-longer (λ u. unless_stands leads (u ++ c.args.letter ∷ [])) _ _ c.args.fronts.now c.loop-front.front-index c.args.most c.front-item.result
    (omega arith) c.front-item.is c.loop-front.invariant.0
    (subst (λ (us : List (List ℕ)). c.args.most < length (c.loop-front.words.items ++ us)) same
    (c.in_err-push_unless.ensures.many (ap Err (same_fault c.from_residual-in_err-push_unless.result _ _ c.from_residual-in_err-push_unless.ensures.1 e))))
