use Rattle.std.proofs.Common.{◌∙◌}
use Rattle.normal_words.proofs.Blocks.{is_some-tells}
use Rattle.right_modules.specs.Extended.{stands}
use Rattle.right_modules.proofs.Standing.{stands-free, stands-met}
use Rattle.right_modules.proofs.extended.stands.Goals as goal

pub returns : goal.returns
returns c =
    let leads = c.args.index.now in
    let w = c.args.letters.now in
    c.is_some.ensures ∙ is_some-tells c.first_reducer.result _ _ (stands leads w) c.first_reducer.ensures.place (stands-free leads w)
    (λ place. stands-met leads w place.at place.element)
