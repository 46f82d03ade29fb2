use Rattle.std.proofs.Common.{sym, ◌∙◌}
use Rattle.field_table.specs.Residues.{listed_moduli}
use Rattle.command_words.proofs.Digits.{listed_says, says_listed}
use Rattle.command_words.proofs.value.is_listed.Goals as goal

pub returns : goal.returns
returns c = (
  (λ t. listed_says c.args.number listed_moduli (sym c.contains.ensures.value ∙ t)),
  (λ m. c.contains.ensures.value ∙ says_listed c.args.number listed_moduli m),
)
