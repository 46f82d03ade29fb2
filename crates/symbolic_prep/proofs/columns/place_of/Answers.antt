use Rattle.std.proofs.Common.{[], Some, ap, ◌∙◌, rules}
use Rattle.std.proofs.lemmas.Fn.{always_returns_same}
use Rattle.std.proofs.lemmas.Option.{slice_get-get_or}
use Rattle.words.specs.Order.{letterwise_cmp}
use Rattle.symbolic_prep.proofs.Lookups.{found_word, not_between, standing-rises}
use Rattle.symbolic_prep.proofs.columns.place_of.Goals as goal

pub unreachable-requires : goal.unreachable-requires
unreachable-requires c =
    let w = c.args.word.now in
    let parts = c.in-Err.ensures.position (letterwise_cmp w) (always_returns_same _ _ _ (λ a r f' called. (search rules, search rules))) in
    not_between w c.args.words.now c.in-Err.field-0 c.requires.there (parts (standing-rises w c.args.words.now c.requires.falling))

pub returns : goal.returns
returns c =
    let w = c.args.word.now in
    let found = c.in-Ok.ensures.position (letterwise_cmp w) (always_returns_same _ _ _ (λ a r f' called. (search rules, search rules))) in
    slice_get-get_or c.args.words.now c.in-Ok.at [] c.in-Ok.ensures.bound ∙ ap Some (found_word w c.args.words.now c.in-Ok.at [] found)
