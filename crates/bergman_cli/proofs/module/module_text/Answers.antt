use Rattle.std.proofs.Common.{◌≡◌, ◌++◌, ◌∙◌, List, ℕ, ap, rules}
use Rattle.std.proofs.lemmas.Result.{IfOk-weaker}
use Rattle.command_words.specs.declared.job.Show.TheVariants.{Series, Both}
use Rattle.bergman_cli.specs.Module.{module_series_text}
use Rattle.bergman_cli.proofs.ModuleTexts.{both_shown, series_shown}
use Rattle.bergman_cli.proofs.module.module_text.Goals as goal

pub returns-in-Series : goal.returns-in-Series
returns-in-Series c =
    let show : c.args.job.now.show ≡ Series = search rules in
    IfOk-weaker c.series_text.result _ _
    (λ text is. series_shown c.args.job.now c.args.given.now c.args.field.now c.requires.modulus show c.args.computed.now.numbers text.items
    c.requires.numbers (is ∙ ap module_series_text c.as_slice-numbers.ensures))
    c.series_text.ensures

pub returns-in_ok-extend_from_slice-in-Both : goal.returns-in_ok-extend_from_slice-in-Both
returns-in_ok-extend_from_slice-in-Both c =
    let show : c.args.job.now.show ≡ Both = search rules in
    let basis = c.in_ok-text-in-Both.text.items in
    both_shown c.args.job.now c.args.given.now c.args.field.now c.requires.modulus show c.args.computed.now.numbers basis
    c.extend_from_slice.new.self.items c.in_ok-text-in-Both.ensures c.requires.numbers
    (c.in_ok-extend_from_slice-in-Both.ensures.items ∙ ap (λ (t : List ℕ). basis ++ t)
    (c.as_slice.ensures.value ∙ c.in_ok-series-in-Both.ensures ∙ ap module_series_text c.as_slice-numbers.ensures))
