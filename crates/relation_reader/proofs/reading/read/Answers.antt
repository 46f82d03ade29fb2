use Rattle.std.proofs.Common.{◌≡◌, ◌∙◌, List, None, Option, sym, ap, arith, subst}
use Rattle.relation_reader.specs.declared.fault.InputFault.{InputFault}
use Rattle.relation_reader.specs.declared.token.Token.{Token}
use Rattle.relation_reader.specs.Tokens.{SplitsFrom}
use Rattle.relation_reader.specs.Meaning.{pieces_of, place_fault}
use Rattle.relation_reader.proofs.Presenting.{unstopped}
use Rattle.relation_reader.proofs.reading.read.Goals as goal

pub presentation_of-requires-clause-modulus : goal.presentation_of-requires-clause-modulus
presentation_of-requires-clause-modulus c = omega (arith, c.modulus.ensures.field.two_or_more)

pub presentation_of-requires-clause-splits : goal.presentation_of-requires-clause-splits
presentation_of-requires-clause-splits c =
    let text = c.args.text.now in
    let split = c.in_ok-tokens.field-0 in
    let none : place_fault (pieces_of text c.as_slice.result.now split.stop) split.stop ≡ None = sym c.in_ok-fault.ensures ∙ c.in_default.is in
    subst (λ (ts : List Token). SplitsFrom text 0 ts None) (sym c.as_slice-2.ensures.value)
    (subst (λ (s : Option InputFault). SplitsFrom text 0 split.tokens.items s) (unstopped text c.as_slice.result.now split.stop none) c.in_ok-tokens.ensures)

pub presentation_of-requires-clause-no_fault : goal.presentation_of-requires-clause-no_fault
presentation_of-requires-clause-no_fault c =
    let text = c.args.text.now in
    let split = c.in_ok-tokens.field-0 in
    let none : place_fault (pieces_of text c.as_slice.result.now split.stop) split.stop ≡ None = sym c.in_ok-fault.ensures ∙ c.in_default.is in
    let stop : split.stop ≡ None = unstopped text c.as_slice.result.now split.stop none in
    let same : c.as_slice.result.now ≡ c.as_slice-2.result.now = c.as_slice.ensures.value ∙ sym c.as_slice-2.ensures.value in
    ap (λ (ts : List Token). place_fault (pieces_of text ts None) None) (sym same)
    ∙ ap (λ (s : Option InputFault). place_fault (pieces_of text c.as_slice.result.now s) s) (sym stop) ∙ none
