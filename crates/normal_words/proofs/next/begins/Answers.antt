use Rattle.std.proofs.Common.{◌∙◌}
use Rattle.normal_words.specs.Block.{begins}
use Rattle.normal_words.proofs.Blocks.{begins_free, begins_started, is_some-tells}
use Rattle.normal_words.proofs.next.begins.Goals as goal

pub returns : goal.returns
returns c =
    let leads = c.args.index.now in
    let w = c.args.letters.now in
    c.is_some.ensures ∙ is_some-tells c.starts.result _ _ (begins leads w) c.starts.ensures.element (begins_free leads w) (begins_started leads w)
