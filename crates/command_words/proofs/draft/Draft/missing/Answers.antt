use Rattle.std.proofs.Common.{ap, sym, take, ◌∙◌, Option}
use Rattle.std.specs.Prelude.{is_some}
use Rattle.command_words.specs.declared.job.Key.TheVariants as keys
use Rattle.command_words.specs.declared.value.Value.{Value}
use Rattle.command_words.proofs.Parts.{none_from, split_at}
use Rattle.command_words.proofs.draft.Draft.missing.Goals as goal

pub returns-then-is_none : goal.returns-then-is_none
returns-then-is_none c =
    let row = c.required_row-key-items.result.now in
    let parts = split_at row c.loop-key.key-index keys.Mod c.loop-key-test.true in
    record {
      earlier = take c.loop-key.key-index row;
      later = parts.0;
      keys_are = sym c.required_row-key-items.ensures ∙ parts.1;
      kept_before = c.loop-key.invariant;
      gap = none_from _ (ap (λ (o : Option Value). is_some o) (sym c.value_of.ensures) ∙ c.if-is_none.ensures);
    }
