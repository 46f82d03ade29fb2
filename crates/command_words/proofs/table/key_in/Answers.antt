use Rattle.std.proofs.Common.{All, List, get_or, subst, sym, ◌∙◌}
use Rattle.std.specs.Prelude.{Contains}
use Rattle.std.proofs.lemmas.List.{take_all}
use Rattle.std.proofs.lemmas.List.Elements.{All-contains, All-more, Contains-get_or}
use Rattle.command_words.specs.declared.job.Key.{Key}
use Rattle.command_words.specs.declared.job.Key.TheVariants as keys
use Rattle.command_words.specs.Refusals.{HasKey}
use Rattle.command_words.proofs.Parts.{when_none, when_some}
use Rattle.command_words.proofs.table.key_in.Goals as goal

pub loop-key-preserved : goal.loop-key-preserved
loop-key-preserved c =
    let word = c.args.word.now in
    All-more (λ (key : Key). HasKey key word → ⊥) c.row_of-key-items.result.now c.loop-key.key-index keys.Mod c.loop-key-test.true c.loop-key.invariant
    (when_none _ _ c.text_behind.result c.text_behind.ensures (sym c.is_some.ensures ∙ c.if-is_some.false))

pub returns : goal.returns
returns c =
    let word = c.args.word.now in
    let none : All (λ (key : Key). HasKey key word → ⊥) c.row_of-key-items.result.now
    = subst (All (λ (key : Key). HasKey key word → ⊥)) (take_all c.loop-key.key-index c.row_of-key-items.result.now c.loop-key-test.false)
    c.loop-key.invariant in
    λ key member. All-contains (λ (k : Key). HasKey k word → ⊥) c.row_of-key-items.result.now key none
    (subst (λ (ks : List Key). Contains ks key) (sym c.row_of-key-items.ensures) member)

pub returns-then-is_some : goal.returns-then-is_some
returns-then-is_some c =
    let key = get_or c.row_of-key-items.result.now c.loop-key.key-index keys.Mod in
    let text = when_some _ _ c.text_behind.result c.text_behind.ensures (sym c.is_some.ensures ∙ c.if-is_some.true) in (
      subst (λ (ks : List Key). Contains ks key) c.row_of-key-items.ensures
          (Contains-get_or c.row_of-key-items.result.now c.loop-key.key-index keys.Mod c.loop-key-test.true),
      record { text = text.0.now; word_is = text.1 },
    )
