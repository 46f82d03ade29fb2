use Rattle.std.proofs.Common.{◌∙◌, sym, arith}
use Rattle.std.specs.Cmp.Lexicographic.{other_text, same_text}
use Rattle.words.proofs.NameLists.{name_here, others_more}
use Rattle.words.proofs.alphabet.place_of.Goals as goal

pub returns-then-eq : goal.returns-then-eq
returns-then-eq c = (
  omega arith,
  name_here (λ name. name.items) c.args.names.now c.loop-at.at c.index-names-at.result c.args.name.now (omega arith) c.index-names-at.is
      (sym c.as_slice.ensures.value ∙ same_text _ _ (sym c.if-eq.true ∙ c.eq.ensures)),
)

pub loop-at-preserved : goal.loop-at-preserved
loop-at-preserved c =
    others_more (λ name. name.items) c.args.names.now c.loop-at.at c.index-names-at.result c.args.name.now (omega arith) c.index-names-at.is
    (λ e. other_text _ _ (sym c.if-eq.false ∙ c.eq.ensures) (c.as_slice.ensures.value ∙ e)) c.loop-at.invariant
